use Rattle.twin_journal.proofs.TwinLaws.{generations_go_on}
use Rattle.twin_journal.proofs.generations_go_on.Goals as goal

pub returns : goal.returns
returns c = generations_go_on
