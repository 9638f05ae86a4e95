use Rattle.broker_laws.proofs.Joins.{joins_happen}
use Rattle.broker_laws.proofs.joined.joins_happen.Goals as goal

pub returns : goal.returns
returns g c = joins_happen g.B.Disk.state g.C.Disk.state
