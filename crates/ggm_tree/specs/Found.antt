-- Trees without the path to one leaf: a node beside the path is found from the sum of its side, and the leaves below it.
use Rattle.std.specs.Prelude.{◌≡◌, ℕ, ◌+◌, ◌-◌, ◌*◌, ◌/◌, ◌%◌, ◌^◌, ◌<◌, ◌≤◌, ◌⊎◌, nat_eq, if◌then◌else◌, List, [], ◌∷◌, drop, slice_index}
use Rattle.zk_model.specs.Bytes.{LeftRight, xor_bytes}
use Rattle.ggm_tree.specs.Rows.{leaves_below, level_in, AreAdded}

-- the place of the other child of the same parent
abbrev pub sibling_of : ℕ → ℕ
sibling_of place = 2 * (place / 2) + (1 - place % 2)

-- the sibling of the node at a place: the sum of its side, less what is held of the other nodes there
abbrev pub sibling_node : ℕ → List ℕ → LeftRight → List ℕ
sibling_node place sum held = xor_bytes (if nat_eq (place % 2) 0 then held.right else held.left) sum

-- The leaves below the sibling of the node at a place are written, where it stands so high above them, and what is held
-- of the levels below it has its children.
pub record AreLeavesFilled (level height place : ℕ) (sum : List ℕ) (held after : List LeftRight)
    (leaves filled : List ℕ) : Type 0 where
  pub added : AreAdded (sibling_node place sum (level_in held level) ∷ []) height
      (drop (level + 1) held) (drop (level + 1) after)
  pub written : (j : ℕ) → j < 2 ^ height → slice_index filled (sibling_of place * 2 ^ height + j)
      ≡ slice_index (leaves_below (sibling_node place sum (level_in held level) ∷ []) height) j
  pub kept : (j : ℕ) → (j < sibling_of place * 2 ^ height) ⊎ (sibling_of place * 2 ^ height + 2 ^ height ≤ j)
      → slice_index filled j ≡ slice_index leaves j
