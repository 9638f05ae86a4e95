use Rattle.zk_laws.proofs.WholePairs as law
use Rattle.zk_laws.proofs.pairs.pairs_are_whole.Goals as goal

pub returns : goal.returns
returns c = law.pairs_are_whole
