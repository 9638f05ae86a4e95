-- The sums of a tree's levels.
use Rattle.std.specs.Prelude.{ℕ, true, false, List, map}
use Rattle.std.specs.List.{range_with_len}
use Rattle.zk_model.specs.Bytes.{LeftRight}
use Rattle.zk_model.specs.Tree.{level_sum}

-- both sums of a level
abbrev pub sums_of : List ℕ → ℕ → LeftRight
sums_of root level = record { left = level_sum root level false; right = level_sum root level true }

-- the sums of all levels
abbrev pub tree_sums : List ℕ → ℕ → List LeftRight
tree_sums root h = map (sums_of root) (range_with_len 0 h)
