use Rattle.zk_laws.proofs.FoundPairs as law
use Rattle.zk_laws.proofs.pairs.pairs_exist.Goals as goal

pub returns : goal.returns
returns c = law.pairs_exist
