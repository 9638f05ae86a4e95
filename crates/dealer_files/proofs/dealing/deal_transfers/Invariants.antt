use Rattle.std.proofs.Common.{◌≡◌, map, flat_map}
use Rattle.std.specs.List.{range_with_len}
use Rattle.dealer_files.specs.Dealing.{dealt_pads, dealt_transfer}
use Rattle.dealer_files.specs.Flat.{transfers_per_unit}
use Rattle.dealer_files.proofs.dealing.deal_transfers.Given as goal

abbrev pub invariant-loop-unit : goal.invariant-loop-unit
invariant-loop-unit l = record {
  transfers : l.transfers.items
      ≡ flat_map (λ u. map (dealt_transfer l.coins u) (range_with_len 0 (transfers_per_unit l.params))) (range_with_len 0 l.unit);
  pads : l.pads.items
      ≡ flat_map (λ u. map (dealt_pads l.coins u) (range_with_len 0 (transfers_per_unit l.params))) (range_with_len 0 l.unit);
}
