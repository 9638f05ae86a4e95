use Rattle.zk_laws.proofs.HonestSession as law
use Rattle.zk_laws.proofs.sessions.honest_session_holds.Goals as goal

pub returns : goal.returns
returns c = law.honest_session_holds
