use Rattle.tree_laws.proofs.Punctured as law
use Rattle.tree_laws.proofs.trees.one_punctured.Goals as goal

pub returns : goal.returns
returns c = law.one_punctured
