use Rattle.std.proofs.Common.{inr}
use Rattle.file_commands.proofs.EvalOutcomes.{evaluates, says_outputs}
use Rattle.file_commands.proofs.eval_command.run_eval.Goals as goal

pub returns-in-Ok : goal.returns-in-Ok
returns-in-Ok g c =
    evaluates c.one_circuit.ensures _ _
    (says_outputs _ _ c.in-Ok.outputs.items c.deref.result.now c.deref.ensures.value c.in-Ok.ensures.gives c.say_outputs.ensures)
    c.in-Ok.ensures.kept

pub returns-in-Err : goal.returns-in-Err
returns-in-Err g c =
    evaluates c.one_circuit.ensures _ _
    (inr record { stop = c.in-Err.stop; cause = c.in-Err.ensures.stop; prints = c.say_stop.ensures }) c.in-Err.ensures.kept
