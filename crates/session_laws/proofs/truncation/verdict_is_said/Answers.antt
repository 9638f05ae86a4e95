use Rattle.session_laws.proofs.Cut as law
use Rattle.session_laws.proofs.truncation.verdict_is_said.Goals as goal

pub returns : goal.returns
returns c = law.verdict_is_said
