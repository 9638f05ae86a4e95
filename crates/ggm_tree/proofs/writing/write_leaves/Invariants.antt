use Rattle.ggm_tree.proofs.writing.write_leaves.Given as goal

abbrev pub ghosts-write_from : goal.ghosts-write_from
ghosts-write_from a = record { name = a.blank.name; parts = a.blank.parts }
