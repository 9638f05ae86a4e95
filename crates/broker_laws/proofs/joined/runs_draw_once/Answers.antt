use Rattle.broker_laws.proofs.Interleaved.{runs_draw_once}
use Rattle.broker_laws.proofs.joined.runs_draw_once.Goals as goal

pub returns : goal.returns
returns g c = runs_draw_once g.B.Disk.state g.C.Disk.state
