use Rattle.zk_laws.proofs.Agreed as law
use Rattle.zk_laws.proofs.uniqueness.fixed_before_challenge.Goals as goal

pub returns : goal.returns
returns c = law.fixed_before_challenge
