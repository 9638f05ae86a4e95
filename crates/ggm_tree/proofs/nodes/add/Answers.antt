use Rattle.std.proofs.Common.{arith}
use Rattle.ggm_tree.proofs.Sums.{xored}
use Rattle.ggm_tree.proofs.nodes.add.Goals as goal

pub returns : goal.returns
returns c = xored c.args.sum.now c.args.node.now c.xor-added.result c.told-sum c.told-node (omega arith) c.xor-added.ensures
