use Rattle.broker_laws.proofs.Sessions.{sessions_grant_once}
use Rattle.broker_laws.proofs.led.all_sessions_grant_once.Goals as goal

pub returns : goal.returns
returns g c = sessions_grant_once g.row.D-Link.Denot g.B.Disk.state g.C.Disk.state
