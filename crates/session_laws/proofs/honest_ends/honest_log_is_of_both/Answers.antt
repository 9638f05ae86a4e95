use Rattle.session_laws.proofs.OfBoth as law
use Rattle.session_laws.proofs.honest_ends.honest_log_is_of_both.Goals as goal

pub returns : goal.returns
returns c = law.honest_log_is_of_both
