use Rattle.twin_journal.proofs.TwinLaws.{says_recovers}
use Rattle.twin_journal.proofs.says_what_it_recovers.Goals as goal

pub returns : goal.returns
returns c = says_recovers
