use Rattle.twin_journal.proofs.TwinLaws.{recovers_one}
use Rattle.twin_journal.proofs.recovers_one_list.Goals as goal

pub returns : goal.returns
returns c = recovers_one
