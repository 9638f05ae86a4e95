use Rattle.twin_journal.proofs.TwinLaws.{starts_again}
use Rattle.twin_journal.proofs.twin_starts_again.Goals as goal

pub returns : goal.returns
returns c = starts_again
