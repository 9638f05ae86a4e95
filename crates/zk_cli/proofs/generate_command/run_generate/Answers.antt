use Rattle.std.proofs.Common.{refl}
use Rattle.zk_cli.proofs.RehearseOutcomes.{generates}
use Rattle.zk_cli.proofs.generate_command.run_generate.Goals as goal

pub returns-in-Ok-clause-generates : goal.returns-in-Ok-clause-generates
returns-in-Ok-clause-generates g c =
    generates _ c.args.seed.now _ _ (c.in-Ok.ensures.rehearsed, c.say_rehearsal.ensures) refl

pub returns-in-Err-clause-generates : goal.returns-in-Err-clause-generates
returns-in-Err-clause-generates g c =
    generates _ c.args.seed.now _ _ (record { stop = c.in-Err.stop; cause = c.in-Err.ensures.stop; prints = c.say_stop.ensures }) refl
