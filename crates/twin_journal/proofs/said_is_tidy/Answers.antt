use Rattle.twin_journal.proofs.TidyFiles.{said_is_tidy}
use Rattle.twin_journal.proofs.said_is_tidy.Goals as goal

pub returns : goal.returns
returns c = said_is_tidy
