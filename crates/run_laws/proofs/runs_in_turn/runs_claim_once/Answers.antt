use Rattle.run_laws.proofs.ClaimsInTurn.{runs_claim_once}
use Rattle.run_laws.proofs.runs_in_turn.runs_claim_once.Goals as goal

pub returns : goal.returns
returns g c = runs_claim_once g.B.Disk.state c.bytes_say_one_list.ensures
