-- Rows: some nodes of one level of a tree, in order, and what is below them.
use Rattle.std.specs.Prelude.{◌≡◌, ℕ, zero, suc, ◌<◌, ◌≤◌, true, false, List, [], ◌∷◌, map, fold, replicate, slice_index_or}
use Rattle.std.specs.List.{flat_map}
use Rattle.zk_model.specs.Bytes.{LeftRight, xor_bytes}
use Rattle.zk_model.specs.Tree.{child_of, leaf_value}

-- both children of each node
abbrev pub children_of : List (List ℕ) → List (List ℕ)
children_of row = flat_map (λ node. child_of false node ∷ child_of true node ∷ []) row

-- the nodes so many levels below a row
unfoldable pub nodes_below : List (List ℕ) → ℕ → List (List ℕ)
nodes_below row zero = row
nodes_below row (suc height) = nodes_below (children_of row) height

-- the elements of the leaves, where they are that many levels below
abbrev pub leaves_below : List (List ℕ) → ℕ → List ℕ
leaves_below row height = map leaf_value (nodes_below row height)

-- the XOR of left children and that of right ones, with the children of a row added
abbrev pub sums_with : LeftRight → List (List ℕ) → LeftRight
sums_with sums row = record {
  left = fold xor_bytes sums.left (map (child_of false) row);
  right = fold xor_bytes sums.right (map (child_of true) row);
}

-- the sums of a level in a list of them
abbrev pub level_in : List LeftRight → ℕ → LeftRight
level_in sums level = slice_index_or sums level (record { left = []; right = [] })

-- to the first sums of a list the children of so many levels from a row on are added, the row's first
pub record AreAdded (row : List (List ℕ)) (height : ℕ) (before after : List LeftRight) : Type 0 where
  pub added : (level : ℕ) → level < height
      → level_in after level ≡ sums_with (level_in before level) (nodes_below row level)
  pub kept : (level : ℕ) → height ≤ level → level_in after level ≡ level_in before level

-- 16 bytes of 0
abbrev pub nothing : List ℕ
nothing = replicate 16 0
