use Rattle.std.proofs.Common.{◌≡◌, [], ◌∙◌, false, get_or, arith}
use Rattle.zk_model.specs.Bytes.{LeftRight}
use Rattle.zk_model.specs.Extension.{masked_messages}
use Rattle.vole_extend.specs.Levels.{both_at}
use Rattle.vole_extend.proofs.Ranges.{map_more, read_at}
use Rattle.vole_extend.proofs.levels.masked_sums.Goals as goal

pub loop-level-preserved : goal.loop-level-preserved
loop-level-preserved c = record {
  messages_are = map_more
      (λ level. masked_messages (both_at c.args.pads.now level) (get_or c.args.flips.now level false) (both_at c.args.sums.now level))
      c.loop-level.messages.items c.push.new.self.items c.reply.result c.loop-level.level c.in_ok-push.ensures.items
      (c.reply.ensures ∙ (λ i. masked_messages (pads i) (get_or c.args.flips.now c.loop-level.level false) (sums i)))
      c.loop-level.invariant.messages_are;
  count = omega (arith, c.in_ok-push.ensures.len, c.loop-level.invariant.count);
}
  where
    none : LeftRight
    none = record { left = []; right = [] }

    pads : record { left = c.pads.inside.left; right = c.pads.inside.right } ≡ both_at c.args.pads.now c.loop-level.level
    pads = read_at c.args.pads.now c.loop-level.level _ c.index-pads-level.result none c.pads.view_is c.index-pads-level.is
        (omega (arith, c.loop-level-test.true, c.requires.pads))

    sums : record { left = c.both.inside.left; right = c.both.inside.right } ≡ both_at c.args.sums.now c.loop-level.level
    sums = read_at c.args.sums.now c.loop-level.level _ c.index-sums-level.result none c.both.view_is c.index-sums-level.is
        c.loop-level-test.true
