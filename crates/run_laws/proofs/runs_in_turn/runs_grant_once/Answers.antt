use Rattle.run_laws.proofs.RunsInTurn.{runs_grant_once}
use Rattle.run_laws.proofs.runs_in_turn.runs_grant_once.Goals as goal

pub returns : goal.returns
returns g c = runs_grant_once g.row.L.Denot g.B.Disk.state
