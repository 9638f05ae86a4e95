use Rattle.broker_laws.proofs.Sessions.{sessions_are_deeds}
use Rattle.broker_laws.proofs.led.sessions_are_deeds.Goals as goal

pub returns : goal.returns
returns g c = sessions_are_deeds g.D.Link.Link.state g.B.Disk.state
