use Rattle.session_laws.proofs.Served as law
use Rattle.session_laws.proofs.serving.served_session_exists.Goals as goal

pub returns : goal.returns
returns c = law.served_session_exists
