use Rattle.node_sessions.proofs.Once.{sessions_grant_once}
use Rattle.node_sessions.proofs.laws.sessions_grant_once.Goals as goal

pub returns : goal.returns
returns g c = sessions_grant_once g.D.Link.Link.state g.B.Disk.state
