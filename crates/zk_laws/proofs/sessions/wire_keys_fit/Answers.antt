use Rattle.zk_laws.proofs.WireKeys as law
use Rattle.zk_laws.proofs.sessions.wire_keys_fit.Goals as goal

pub returns : goal.returns
returns c = law.wire_keys_fit
