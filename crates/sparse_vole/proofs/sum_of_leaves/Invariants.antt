use Rattle.std.proofs.Common.{◌≡◌, ◌%◌, take, sum}
use Rattle.zk_model.specs.Field.{prime}
use Rattle.sparse_vole.proofs.sum_of_leaves.Given as goal

abbrev pub invariant-loop-leaf : goal.invariant-loop-leaf
invariant-loop-leaf l = l.sum ≡ sum (take l.leaf-index l.leaves) % prime
