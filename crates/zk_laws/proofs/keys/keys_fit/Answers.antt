use Rattle.zk_laws.proofs.KeysFit as law
use Rattle.zk_laws.proofs.keys.keys_fit.Goals as goal

pub returns : goal.returns
returns c = law.keys_fit
