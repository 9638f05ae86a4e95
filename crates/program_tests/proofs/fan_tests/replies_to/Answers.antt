use Rattle.std.proofs.Common.{List, sym, subst, arith}
use Rattle.zk_model.specs.Transcript.{TreeAsk}
use Rattle.zk_model.specs.Frames.{AreAsks, AreReplies}
use Rattle.program_tests.proofs.Fitting.{fit_at, more_fit}
use Rattle.program_tests.proofs.fan_tests.replies_to.Goals as goal

pub unit_replies-requires-clause-fits : goal.unit_replies-requires-clause-fits
unit_replies-requires-clause-fits c =
    let Fits : List TreeAsk → Type 0 = AreAsks c.args.file.now.params.height c.args.file.now.params.trees in
    subst Fits (sym c.deref.ensures.value)
    (fit_at Fits c.args.asks.now c.loop-unit.unit c.index-asks-unit.result (omega (arith, c.loop-unit-test.true)) c.index-asks-unit.is c.requires.fits)

pub loop-unit-preserved : goal.loop-unit-preserved
loop-unit-preserved c = record {
  count = omega (arith, c.in_ok-push.ensures.len, c.loop-unit.invariant.count);
  fits = more_fit (AreReplies c.args.file.now.params.height c.args.file.now.params.trees) c.loop-unit.replies.items c.push.new.self.items c.in_ok-more.more
      c.in_ok-push.ensures.items c.loop-unit.invariant.fits c.in_ok-more.ensures;
}
