use Rattle.std.proofs.Common.{◌≡◌, ◌++◌, map}
use Rattle.std.specs.List.{range_with_len}
use Rattle.dealer_files.specs.Words.{word_pair}
use Rattle.dealer_files.proofs.dealing.push_pairs.Given as goal

abbrev pub invariant-loop-j : goal.invariant-loop-j
invariant-loop-j l = l.pairs.items ≡ l.fn.pairs.items ++ map (word_pair l.words) (range_with_len 0 l.j)
