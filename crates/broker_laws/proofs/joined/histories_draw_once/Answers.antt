use Rattle.broker_laws.proofs.Histories.{histories_draw_once}
use Rattle.broker_laws.proofs.joined.histories_draw_once.Goals as goal

pub returns : goal.returns
returns g c = histories_draw_once g.B.Disk.state g.C.Disk.state
