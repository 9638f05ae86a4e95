use Rattle.ggm_tree.proofs.doubling.children.Given as goal

abbrev pub ghosts-children_from : goal.ghosts-children_from
ghosts-children_from a = record { name = a.blank.name; parts = a.blank.parts }
