use Rattle.session_laws.proofs.Cut as law
use Rattle.session_laws.proofs.truncation.cut_is_not_whole.Goals as goal

pub returns : goal.returns
returns c = law.cut_is_not_whole
