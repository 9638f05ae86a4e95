use Rattle.zk_cli.proofs.RehearseOutcomes.{rehearses}
use Rattle.zk_cli.proofs.rehearse_command.run_rehearse.Goals as goal

pub returns-in-Ok : goal.returns-in-Ok
returns-in-Ok g c =
    rehearses c.one_circuit.ensures _ c.args.seed.now _ _ (c.in-Ok.ensures.rehearsed, c.say_rehearsal.ensures) c.in-Ok.ensures.kept

pub returns-in-Err : goal.returns-in-Err
returns-in-Err g c =
    rehearses c.one_circuit.ensures _ c.args.seed.now _ _
    (record { stop = c.in-Err.stop; cause = c.in-Err.ensures.stop; prints = c.say_stop.ensures }) c.in-Err.ensures.kept
