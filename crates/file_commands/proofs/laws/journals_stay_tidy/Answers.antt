use Rattle.file_commands.proofs.StayTidy.{journals_stay_tidy}
use Rattle.file_commands.proofs.laws.journals_stay_tidy.Goals as goal

pub returns : goal.returns
returns c = journals_stay_tidy
