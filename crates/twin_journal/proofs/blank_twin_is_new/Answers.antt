use Rattle.twin_journal.proofs.NewTwins.{blank_twin_is_new}
use Rattle.twin_journal.proofs.blank_twin_is_new.Goals as goal

pub returns : goal.returns
returns c = blank_twin_is_new
