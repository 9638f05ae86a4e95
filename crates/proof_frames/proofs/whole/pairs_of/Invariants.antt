use Rattle.std.proofs.Common.{◌≡◌, ◌+◌, ◌*◌, ◌≤◌, ◌++◌, length}
use Rattle.std.specs.Prelude.{vec_len, vec_capacity}
use Rattle.proof_frames.specs.Frames.{flattened}
use Rattle.proof_frames.proofs.whole.pairs_of.Given as goal

abbrev pub invariant-loop-rest : goal.invariant-loop-rest
invariant-loop-rest l = record {
  bytes : l.elements ≡ flattened l.pairs.items ++ l.rest;
  room : 2 * vec_len l.pairs + length l.rest ≤ 2 * vec_capacity l.pairs;
}

abbrev pub decreases-loop-rest : goal.decreases-loop-rest
decreases-loop-rest l = length l.rest
