use Rattle.std.proofs.Common.{◌≡◌, ◌++◌, take, flat_map}
use Rattle.zk_model.specs.FileBytes.{pads_bytes}
use Rattle.dealer_files.proofs.encoding.push_pads.Given as goal

abbrev pub invariant-loop-both : goal.invariant-loop-both
invariant-loop-both l = l.bytes.items ≡ l.fn.bytes.items ++ flat_map pads_bytes (take l.both-index l.pads)
