use Rattle.broker_laws.proofs.Leaving.{claims_leave_journals}
use Rattle.broker_laws.proofs.deeds.claims_leave_journals.Goals as goal

pub returns : goal.returns
returns g c = claims_leave_journals g.B.Disk.state
