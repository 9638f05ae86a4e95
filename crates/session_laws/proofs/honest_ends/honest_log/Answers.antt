use Rattle.session_laws.proofs.SessionsMeet as law
use Rattle.session_laws.proofs.honest_ends.honest_log.Goals as goal

pub returns : goal.returns
returns c = law.honest_log
