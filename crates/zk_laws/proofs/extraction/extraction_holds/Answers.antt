use Rattle.zk_laws.proofs.Extracted as law
use Rattle.zk_laws.proofs.extraction.extraction_holds.Goals as goal

pub returns : goal.returns
returns c = law.extraction_holds
