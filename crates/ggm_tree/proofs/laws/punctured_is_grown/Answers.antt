use Rattle.ggm_tree.proofs.Law as law
use Rattle.ggm_tree.proofs.laws.punctured_is_grown.Goals as goal

pub returns : goal.returns
returns c = law.punctured_is_grown
