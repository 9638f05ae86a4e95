use Rattle.zk_laws.proofs.HonestIsAccepted as law
use Rattle.zk_laws.proofs.completeness.honest_session_is_accepted.Goals as goal

pub returns : goal.returns
returns c = law.honest_session_is_accepted
