use Rattle.ggm_tree.proofs.summing.+sum_low.Given as goal

abbrev pub decreases-sum_low : goal.decreases-sum_low
decreases-sum_low g l = l.height
