use Rattle.node_sessions.proofs.Kept.{claims_are_kept}
use Rattle.node_sessions.proofs.laws.claims_are_kept.Goals as goal

pub returns : goal.returns
returns g c = claims_are_kept g.D.Link.Link.state g.B.Disk.state
