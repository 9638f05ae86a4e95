use Rattle.zk_laws.proofs.FindingExists as law
use Rattle.zk_laws.proofs.extraction.finding_exists.Goals as goal

pub returns : goal.returns
returns c = law.finding_exists
