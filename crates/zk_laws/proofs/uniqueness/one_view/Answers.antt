use Rattle.zk_laws.proofs.Views as law
use Rattle.zk_laws.proofs.uniqueness.one_view.Goals as goal

pub returns : goal.returns
returns c = law.one_view
