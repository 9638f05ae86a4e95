use Rattle.std.proofs.Common.{arith}
use Rattle.mult_check.proofs.Products.{block_filled}
use Rattle.mult_check.proofs.sections.read_block.Goals as goal

pub loop-i-preserved : goal.loop-i-preserved
loop-i-preserved g c = block_filled (g.W.Held.of c.args.wires.now) (g.W.Held.products c.args.wires.now) c.args.first c.loop-i.i _ c.loop-i.items c.item.result
    (omega (arith, c.loop-i-test.true, c.requires, c.loop-i.auto, c.loop-i.invariant.0))
    (omega (arith, c.loop-i-test.true, c.loop-i.auto, c.loop-i.invariant.0)) c.item.ensures c.loop-i.invariant
