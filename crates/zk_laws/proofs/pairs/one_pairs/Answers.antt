use Rattle.zk_laws.proofs.OnePairs as law
use Rattle.zk_laws.proofs.pairs.one_pairs.Goals as goal

pub returns : goal.returns
returns c = law.one_pairs
