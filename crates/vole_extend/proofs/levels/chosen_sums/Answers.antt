use Rattle.std.proofs.Common.{◌≡◌, [], ◌∙◌, length, arith, refl}
use Rattle.zk_model.specs.Extension.{unmasked_message}
use Rattle.vole_extend.specs.Levels.{choice_at, transfer_at, both_at}
use Rattle.vole_extend.proofs.Ranges.{map_more, read_at, transfer_read}
use Rattle.vole_extend.proofs.levels.chosen_sums.Goals as goal

pub loop-level-preserved : goal.loop-level-preserved
loop-level-preserved c = record {
  sums_are = map_more
      (λ level. unmasked_message
      (transfer_at c.args.transfers.now level).pad (choice_at (length c.args.transfers.now) c.args.place level) (both_at c.args.messages.now level))
      c.loop-level.sums.items c.push.new.self.items c.unmask.result c.loop-level.level c.in_ok-push.ensures.items
      (c.unmask.ensures ∙ (λ i. unmasked_message (transfer i).pad (c.choice_at-choice.ensures i) (message i)))
      c.loop-level.invariant.sums_are;
  count = omega (arith, c.in_ok-push.ensures.len, c.loop-level.invariant.count);
}
  where
    transfer : record { bit = c.transfer.inside.bit; pad = c.transfer.inside.pad } ≡ transfer_at c.args.transfers.now c.loop-level.level
    transfer = transfer_read c.args.transfers.now c.loop-level.level _ c.index-transfers-level.result c.transfer.view_is c.index-transfers-level.is c.loop-level-test.true

    message : c.index-messages-level.result ≡ both_at c.args.messages.now c.loop-level.level
    message = read_at c.args.messages.now c.loop-level.level _ c.index-messages-level.result (record { left = []; right = [] })
        refl c.index-messages-level.is (omega (arith, c.loop-level-test.true, c.requires.count))
