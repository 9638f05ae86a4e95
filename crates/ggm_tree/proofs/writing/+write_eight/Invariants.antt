use Rattle.ggm_tree.proofs.writing.+write_eight.Given as goal

abbrev pub decreases-write_eight : goal.decreases-write_eight
decreases-write_eight g l = l.height
