use Rattle.lease_core.proofs.Keeps.{leases_are_safe}
use Rattle.lease_core.proofs.running.leases_are_safe.Goals as goal

pub returns : goal.returns
returns c = leases_are_safe
