use Rattle.std.proofs.Common.{◌≡◌, ℕ, [], ◌<◌, length, get_or}
use Rattle.ggm_tree.specs.Rows.{level_in}
use Rattle.ggm_tree.proofs.walking.parted.Given as goal

abbrev pub invariant-loop-level : goal.invariant-loop-level
invariant-loop-level l = record {
  left_long : length l.left ≡ 16;
  right_long : length l.right ≡ 16;
  lefts : (k : ℕ) → k < l.level → get_or l.left k [] ≡ (level_in l.sums k).left;
  rights : (k : ℕ) → k < l.level → get_or l.right k [] ≡ (level_in l.sums k).right;
}
