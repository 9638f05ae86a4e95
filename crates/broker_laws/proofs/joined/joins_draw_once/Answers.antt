use Rattle.broker_laws.proofs.Joins.{joins_draw_once}
use Rattle.broker_laws.proofs.joined.joins_draw_once.Goals as goal

pub returns : goal.returns
returns g c = joins_draw_once g.B.Disk.state g.C.Disk.state
