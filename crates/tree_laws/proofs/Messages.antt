-- What both ends say of a level of a tree: sides of a path, and masked messages.
use Rattle.std.proofs.Common.{◌≡◌, ℕ, zero, suc, ◌^◌, ◌<◌, Bool, true, false, not, List, map, length, refl, ap, arith}
use Rattle.std.specs.List.{range_with_len}
use Rattle.std.proofs.lemmas.List.Elements.{All-replicate}
use Rattle.zk_model.proofs.Octets.{child_bytes}
use Rattle.tree_laws.proofs.Xors.{xor_are_bytes, sum_are_bytes, range_all}
use Rattle.zk_model.specs.Bytes.{LeftRight, AreBytes, AreBothBytes}
use Rattle.zk_model.specs.Tree.{child_of, path_to, node_at, level_sum}
use Rattle.zk_model.specs.Extension.{choice_of, masked_messages}

-- a path has a side for each level
pub path_length : (h j : ℕ) → length (path_to h j) ≡ h
path_length zero j = refl
path_length (suc h) j = ap suc (path_length h j)

-- the sum of a side of a level is bytes
pub level_bytes : (root : List ℕ) (level : ℕ) (side : Bool) → AreBytes 16 (level_sum root level side)
level_bytes root level side = sum_are_bytes 16 (map child (range_with_len 0 (2 ^ level))) _
    (refl, All-replicate (λ byte. byte < 256) 16 0 (omega arith))
    (range_all (AreBytes 16) child 0 (2 ^ level) (λ j low high. child_bytes side (node_at root (path_to level j))))
  where
    child : ℕ → List ℕ
    child j = child_of side (node_at root (path_to level j))

choice_bytes : (side : Bool) (both : LeftRight) → AreBothBytes 16 both → AreBytes 16 (choice_of side both)
choice_bytes false both is = is.0
choice_bytes true both is = is.1

pub masked_bytes : (pads : LeftRight) (flip : Bool) (messages : LeftRight) → AreBothBytes 16 pads → AreBothBytes 16 messages
    → AreBothBytes 16 (masked_messages pads flip messages)
masked_bytes pads flip messages left right = (
  xor_are_bytes 16 messages.left (choice_of flip pads) right.0 (choice_bytes flip pads left),
  xor_are_bytes 16 messages.right (choice_of (not flip) pads) right.1 (choice_bytes (not flip) pads left),
)
