use Rattle.std.proofs.Common.{◌≡◌, flat_map}
use Rattle.std.specs.List.{range_with_len}
use Rattle.dealer_files.specs.Dealing.{dealt_pairs}
use Rattle.dealer_files.proofs.dealing.deal_pairs.Given as goal

abbrev pub invariant-loop-unit : goal.invariant-loop-unit
invariant-loop-unit l = l.pairs.items ≡ flat_map (dealt_pairs l.params l.coins) (range_with_len 0 l.unit)
