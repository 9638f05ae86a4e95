use Rattle.lease_core.proofs.Reached.{reached_is_consistent, reached_goes_on}
use Rattle.lease_core.proofs.running.reached_is_consistent.Goals as goal

pub returns : goal.returns
returns c = record { consistent = reached_is_consistent; goes_on = reached_goes_on }
