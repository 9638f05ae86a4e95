use Rattle.std.proofs.Common.{◌≡◌, ◌*◌, length, arith}
use Rattle.dealer_files.specs.Dealing.{dealt_pads, dealt_transfer}
use Rattle.dealer_files.specs.Flat.{transfers_per_unit}
use Rattle.dealer_files.specs.Words.{word_pads, word_transfer}
use Rattle.dealer_files.proofs.DealtLists.{pads_same, transfer_same, transfers_more}
use Rattle.dealer_files.proofs.dealing.deal_transfers.Goals as goal

pub loop-unit-preserved : goal.loop-unit-preserved
loop-unit-preserved c =
    let whole : length c.loop-unit.words ≡ 5 * transfers_per_unit c.args.params.now = omega (arith, c.in_ok-buffer.ensures.len, c.as_mut_slice-words.ensures.len, c.transfers_per_unit-each.ensures.count) in
    record {
      transfers = transfers_more c.args.params.now c.args.coins.now c.words.new.words c.loop-unit.unit (length c.loop-unit.words)
          c.loop-unit.transfers.items c.push_transfers.new.transfers.items (word_transfer c.words.new.words) (dealt_transfer c.args.coins.now) (record { are = c.words.ensures }) whole
          (λ i below. transfer_same c.args.coins.now c.words.new.words c.loop-unit.unit (length c.loop-unit.words) i (record { are = c.words.ensures }) below)
          c.in_ok-push_transfers.ensures.transfers c.loop-unit.invariant.transfers;
      pads = transfers_more c.args.params.now c.args.coins.now c.words.new.words c.loop-unit.unit (length c.loop-unit.words)
          c.loop-unit.pads.items c.push_transfers.new.pads.items (word_pads c.words.new.words) (dealt_pads c.args.coins.now) (record { are = c.words.ensures }) whole
          (λ i below. pads_same c.args.coins.now c.words.new.words c.loop-unit.unit (length c.loop-unit.words) i (record { are = c.words.ensures }) below)
          c.in_ok-push_transfers.ensures.pads c.loop-unit.invariant.pads;
    }
