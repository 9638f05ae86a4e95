use Rattle.node_sessions.proofs.Once.{later_grants_are_apart}
use Rattle.node_sessions.proofs.laws.later_grants_are_apart.Goals as goal

pub returns : goal.returns
returns g c = later_grants_are_apart g.row.D-Link.Denot g.row.E-Link.Denot
