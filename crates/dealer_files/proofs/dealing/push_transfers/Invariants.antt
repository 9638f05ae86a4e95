use Rattle.std.proofs.Common.{◌≡◌, ◌++◌, map}
use Rattle.std.specs.List.{range_with_len}
use Rattle.dealer_files.specs.Words.{word_pads, word_transfer}
use Rattle.dealer_files.proofs.dealing.push_transfers.Given as goal

abbrev pub invariant-loop-i : goal.invariant-loop-i
invariant-loop-i l = record {
  transfers : l.transfers.items ≡ l.fn.transfers.items ++ map (word_transfer l.words) (range_with_len 0 l.i);
  pads : l.pads.items ≡ l.fn.pads.items ++ map (word_pads l.words) (range_with_len 0 l.i);
}
