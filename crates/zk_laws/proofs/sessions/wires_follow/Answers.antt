use Rattle.zk_laws.proofs.Follow as law
use Rattle.zk_laws.proofs.sessions.wires_follow.Goals as goal

pub returns : goal.returns
returns c = law.wires_follow
