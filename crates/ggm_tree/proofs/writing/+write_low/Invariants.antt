use Rattle.ggm_tree.proofs.writing.+write_low.Given as goal

abbrev pub decreases-write_low : goal.decreases-write_low
decreases-write_low g l = l.height
