use Rattle.std.proofs.Common.{◌≡◌, ◌++◌, take, flat_map}
use Rattle.zk_model.specs.FileBytes.{transfer_bytes}
use Rattle.dealer_files.proofs.encoding.push_transfers.Given as goal

abbrev pub invariant-loop-transfer : goal.invariant-loop-transfer
invariant-loop-transfer l = l.bytes.items ≡ l.fn.bytes.items ++ flat_map transfer_bytes (take l.transfer-index l.transfers)
