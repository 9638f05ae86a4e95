use Rattle.broker_laws.proofs.Histories.{histories_are_events}
use Rattle.broker_laws.proofs.joined.histories_are_events.Goals as goal

pub returns : goal.returns
returns g c = histories_are_events g.B.Disk.state g.C.Disk.state
