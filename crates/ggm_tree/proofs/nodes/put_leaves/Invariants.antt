use Rattle.std.proofs.Common.{◌≡◌, map, take}
use Rattle.zk_model.specs.Tree.{leaf_value}
use Rattle.ggm_tree.proofs.nodes.put_leaves.Given as goal

abbrev pub invariant-loop-place : goal.invariant-loop-place
invariant-loop-place l = take l.place l.leaves ≡ map leaf_value (take l.place l.nodes)
