use Rattle.std.proofs.Common.{◌≡◌, ◌≤◌, ◌++◌, length}
use Rattle.proof_frames.specs.Holding.{Holds, bytes_of}
use Rattle.proof_frames.proofs.held.Held.take.Given as goal

abbrev pub invariant-loop-rest : goal.invariant-loop-rest
invariant-loop-rest l = record {
  holds : Holds l.place l.self;
  bytes : bytes_of l.self ++ l.rest ≡ bytes_of l.fn.self ++ l.piece;
  less : length l.rest ≤ length l.piece;
}

abbrev pub decreases-loop-rest : goal.decreases-loop-rest
decreases-loop-rest l = length l.rest
