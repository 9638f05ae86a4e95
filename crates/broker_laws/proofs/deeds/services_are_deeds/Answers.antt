use Rattle.broker_laws.proofs.Exchanges.{services_are_deeds}
use Rattle.broker_laws.proofs.deeds.services_are_deeds.Goals as goal

pub returns : goal.returns
returns g c = services_are_deeds g.D.Link.Link.state g.C.Disk.state
