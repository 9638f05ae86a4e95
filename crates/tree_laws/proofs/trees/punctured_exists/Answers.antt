use Rattle.tree_laws.proofs.FoundTrees as law
use Rattle.tree_laws.proofs.trees.punctured_exists.Goals as goal

pub returns : goal.returns
returns c = law.punctured_exists
