use Rattle.zk_cli.proofs.ArithOutcomes.{rehearses_arith}
use Rattle.zk_cli.proofs.arith_rehearse_command.run_rehearse_arith.Goals as goal

pub returns-in-Ok : goal.returns-in-Ok
returns-in-Ok g c =
    rehearses_arith c.texts_are_exact.ensures c.elements_are_exact.ensures _ c.args.seed.now _ _
    (c.in-Ok.ensures.rehearsed, c.say_elements_rehearsal.ensures) c.in-Ok.ensures.kept

pub returns-in-Err : goal.returns-in-Err
returns-in-Err g c =
    rehearses_arith c.texts_are_exact.ensures c.elements_are_exact.ensures _ c.args.seed.now _ _
    (record { stop = c.in-Err.stop; cause = c.in-Err.ensures.stop; prints = c.say_stop.ensures }) c.in-Err.ensures.kept
