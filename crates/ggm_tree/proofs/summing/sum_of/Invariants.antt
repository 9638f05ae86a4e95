use Rattle.std.proofs.Common.{◌≡◌, ◌%◌, map, take, sum}
use Rattle.zk_model.specs.Field.{prime}
use Rattle.zk_model.specs.Tree.{leaf_value}
use Rattle.ggm_tree.proofs.summing.sum_of.Given as goal

abbrev pub invariant-loop-node : goal.invariant-loop-node
invariant-loop-node l = l.sum ≡ sum (map leaf_value (take l.node-index l.nodes)) % prime
