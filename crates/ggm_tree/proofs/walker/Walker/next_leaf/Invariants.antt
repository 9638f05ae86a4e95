use Rattle.std.proofs.Common.{◌≡◌, ℕ, ◌+◌, ◌<◌, ◌≤◌, ◌++◌, length, get_or}
use Rattle.zk_model.specs.Tree.{tree_leaves}
use Rattle.ggm_tree.specs.Pending.{leaves_left}
use Rattle.ggm_tree.proofs.walker.Walker.next_leaf.Given as goal

abbrev pub invariant-loop-height : goal.invariant-loop-height
invariant-loop-height l = record {
  nodes_long : length l.self-inside.nodes ≡ 17;
  heights_long : length l.self-inside.heights ≡ 17;
  room : l.self-inside.held + l.height ≤ 16;
  low : (k : ℕ) → k < l.self-inside.held → k + get_or l.self-inside.heights k 0 ≤ 16;
  left : tree_leaves l.node l.height ++ leaves_left l.self-inside.nodes l.self-inside.heights l.self-inside.held ≡ l.fn.self;
}
