use Rattle.std.proofs.Common.{◌≡◌, ◌++◌, take, flat_map}
use Rattle.std.specs.Prelude.{All}
use Rattle.proof_frames.proofs.spelling.push_all.Given as goal

abbrev pub invariant-loop-item : goal.invariant-loop-item
invariant-loop-item g l = record {
  bytes : l.bytes.items ≡ l.fn.bytes.items ++ flat_map g.T.Spelled.spelling (take l.item-index l.items);
  range : All g.T.Spelled.ranged (take l.item-index l.items);
}
