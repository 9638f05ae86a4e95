use Rattle.std.proofs.Common.{inr}
use Rattle.status_command.proofs.StatusOutcomes.{reports}
use Rattle.status_command.proofs.status_command.run_status.Goals as goal

pub returns-in-Err : goal.returns-in-Err
returns-in-Err g c =
    reports c.one_circuit.ensures c.claims_start_again.ensures c.ceilings_start_again.ensures _ _ _
    (inr record { stop = c.in-Err.stop; cause = c.in-Err.ensures.stop; prints = c.say_stop-status.ensures }) c.in-Err.ensures.kept
