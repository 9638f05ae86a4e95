use Rattle.std.proofs.Common.{◌≡◌, ◌++◌, take, flat_map}
use Rattle.zk_model.specs.FileBytes.{pair_bytes}
use Rattle.dealer_files.proofs.encoding.push_pairs.Given as goal

abbrev pub invariant-loop-pair : goal.invariant-loop-pair
invariant-loop-pair l = l.bytes.items ≡ l.fn.bytes.items ++ flat_map pair_bytes (take l.pair-index l.pairs)
