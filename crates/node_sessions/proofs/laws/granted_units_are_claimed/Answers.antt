use Rattle.node_sessions.proofs.Once.{granted_units_are_claimed}
use Rattle.node_sessions.proofs.laws.granted_units_are_claimed.Goals as goal

pub returns : goal.returns
returns g c = granted_units_are_claimed g.D.Link.Link.state g.B.Disk.state
