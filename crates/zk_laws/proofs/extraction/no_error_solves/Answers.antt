use Rattle.zk_laws.proofs.NoErrors as law
use Rattle.zk_laws.proofs.extraction.no_error_solves.Goals as goal

pub returns : goal.returns
returns c = law.no_error_solves
