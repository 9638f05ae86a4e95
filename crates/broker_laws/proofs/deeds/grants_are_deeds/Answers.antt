use Rattle.broker_laws.proofs.Grants.{grants_are_deeds}
use Rattle.broker_laws.proofs.deeds.grants_are_deeds.Goals as goal

pub returns : goal.returns
returns g c = grants_are_deeds g.D.Link.Link.state g.B.Disk.state
