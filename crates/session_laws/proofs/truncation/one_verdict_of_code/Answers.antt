use Rattle.session_laws.proofs.Cut as law
use Rattle.session_laws.proofs.truncation.one_verdict_of_code.Goals as goal

pub returns : goal.returns
returns c = law.one_verdict_of_code
