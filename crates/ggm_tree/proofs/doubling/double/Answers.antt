use Rattle.std.proofs.Common.{take, drop, ◌∙◌, ap}
use Rattle.zk_model.specs.Tree.{child_of}
use Rattle.ggm_tree.proofs.doubling.double.Goals as goal

pub returns-clause-left : goal.returns-clause-left
unfolding child_of
returns-clause-left g c = c.halves.ensures.front ∙ ap (take 16) c.digest-digest.ensures

pub returns-clause-right : goal.returns-clause-right
unfolding child_of
returns-clause-right g c = c.halves.ensures.back ∙ ap (drop 16) c.digest-digest.ensures
