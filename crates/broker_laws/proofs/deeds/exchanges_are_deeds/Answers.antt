use Rattle.broker_laws.proofs.Exchanges.{exchanges_are_deeds}
use Rattle.broker_laws.proofs.deeds.exchanges_are_deeds.Goals as goal

pub returns : goal.returns
returns g c = exchanges_are_deeds g.D.Link.Link.state g.C.Disk.state
