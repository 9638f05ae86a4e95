use Rattle.std.proofs.Common.{refl}
use Rattle.command_words.proofs.Decimals.{capped_step}
use Rattle.command_words.proofs.numbers.capped_value.Goals as goal

pub loop-c-preserved : goal.loop-c-preserved
loop-c-preserved c =
    capped_step c.args.word.now c.loop-c.c-index c.loop-c.value c.then_digit-value.result _ c.args.most c.loop-c-test.true refl c.loop-c.invariant c.then_digit-value.ensures
