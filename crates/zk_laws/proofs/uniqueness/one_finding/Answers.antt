use Rattle.zk_laws.proofs.OneFinding as law
use Rattle.zk_laws.proofs.uniqueness.one_finding.Goals as goal

pub returns : goal.returns
returns c = law.one_finding
