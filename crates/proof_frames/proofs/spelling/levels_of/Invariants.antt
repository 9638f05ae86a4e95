use Rattle.std.proofs.Common.{◌≡◌, ◌-◌, ◌*◌, ◌≤◌, ◌++◌, flat_map}
use Rattle.std.specs.Prelude.{All, vec_len, vec_capacity}
use Rattle.proof_frames.specs.Rows.{AreWithin}
use Rattle.proof_frames.proofs.spelling.levels_of.Given as goal

abbrev pub invariant-loop : goal.invariant-loop
invariant-loop g l = record {
  bytes : flat_map g.L.Spelled.spelling l.levels.items ++ l.rest ≡ l.bytes;
  rest : AreWithin (g.L.Level.SIZE * (l.height - l.counter)) 0 g.L.Level.most l.rest;
  each : All g.L.Level.fits l.levels.items;
  count : vec_len l.levels ≡ l.counter;
  room : l.height ≤ vec_capacity l.levels;
}
