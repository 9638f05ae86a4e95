use Rattle.std.proofs.Common.{arith}
use Rattle.proof_audit.proofs.Lists.{both_more, same_masked}
use Rattle.proof_audit.proofs.judge.same_messages.Goals as goal

pub loop-level-preserved : goal.loop-level-preserved
loop-level-preserved c =
    both_more c.args.some.now c.args.others.now c.loop-level.level c.index-some-level.result c.index-others-level.result c.loop-level.invariant
    c.index-some-level.is c.index-others-level.is c.loop-level-test.true (omega (arith, c.loop-level-test.true, c.if-some-others.false))
    (same_masked c.index-some-level.result c.index-others-level.result c.if-ne.ensures)
