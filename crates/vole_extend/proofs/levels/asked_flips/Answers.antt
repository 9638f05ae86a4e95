use Rattle.std.proofs.Common.{◌≡◌, ◌∙◌, length, arith}
use Rattle.zk_model.specs.Extension.{flip_for}
use Rattle.vole_extend.specs.Levels.{choice_at, transfer_at}
use Rattle.vole_extend.proofs.Ranges.{map_more, transfer_read}
use Rattle.vole_extend.proofs.levels.asked_flips.Goals as goal

pub loop-level-preserved : goal.loop-level-preserved
loop-level-preserved c = record {
  flips_are = map_more
      (λ level. flip_for (transfer_at c.args.transfers.now level).bit (choice_at (length c.args.transfers.now) c.args.place level))
      c.loop-level.flips.items c.push.new.self.items c.ask.result c.loop-level.level c.in_ok-push.ensures.items
      (c.ask.ensures ∙ (λ i. flip_for (transfer i).bit (c.choice_at-choice.ensures i)))
      c.loop-level.invariant.flips_are;
  count = omega (arith, c.in_ok-push.ensures.len, c.loop-level.invariant.count);
}
  where
    transfer : record { bit = c.transfer.inside.bit; pad = c.transfer.inside.pad } ≡ transfer_at c.args.transfers.now c.loop-level.level
    transfer = transfer_read c.args.transfers.now c.loop-level.level _ c.index-transfers-level.result c.transfer.view_is c.index-transfers-level.is c.loop-level-test.true
