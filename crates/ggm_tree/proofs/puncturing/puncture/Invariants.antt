use Rattle.ggm_tree.proofs.Found.{IsFound}
use Rattle.ggm_tree.proofs.puncturing.puncture.Given as goal

abbrev pub invariant-loop-level : goal.invariant-loop-level
invariant-loop-level l = IsFound l.height l.missing l.level l.sums l.held l.leaves.items
