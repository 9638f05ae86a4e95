use Rattle.zk_laws.proofs.Views as law
use Rattle.zk_laws.proofs.sessions.view_exists.Goals as goal

pub returns : goal.returns
returns c = law.view_exists
