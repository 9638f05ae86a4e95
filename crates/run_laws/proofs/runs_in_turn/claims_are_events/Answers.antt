use Rattle.run_laws.proofs.MachineRuns.{claims_are_events}
use Rattle.run_laws.proofs.runs_in_turn.claims_are_events.Goals as goal

pub returns : goal.returns
returns c = claims_are_events
