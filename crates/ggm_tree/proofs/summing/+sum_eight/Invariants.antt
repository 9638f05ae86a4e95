use Rattle.ggm_tree.proofs.summing.+sum_eight.Given as goal

abbrev pub decreases-sum_eight : goal.decreases-sum_eight
decreases-sum_eight g l = l.height
