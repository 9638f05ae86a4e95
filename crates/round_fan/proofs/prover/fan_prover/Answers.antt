use Rattle.std.proofs.Common.{arith}
use Rattle.zk_model.specs.Frames.{AreReplies}
use Rattle.round_fan.proofs.Units.{all_fit}
use Rattle.round_fan.proofs.prover.fan_prover.Goals as goal

pub some_at_a_time-requires-clause-fits : goal.some_at_a_time-requires-clause-fits
some_at_a_time-requires-clause-fits g c κs within =
    all_fit AreReplies c.args.file.now.params c.args.file.now.code_seed c.args.columns.now c.args.span.start c.args.replies.now c.requires.extended
    (omega (arith, c.requires.units, c.requires.within)) c.requires.columns c.requires.fits
