use Rattle.node_sessions.proofs.Causes.{sessions_have_causes}
use Rattle.node_sessions.proofs.laws.sessions_have_causes.Goals as goal

pub returns : goal.returns
returns g c = sessions_have_causes g.D.Link.Link.state g.B.Disk.state
