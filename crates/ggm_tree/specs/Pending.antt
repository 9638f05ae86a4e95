-- What is left of a walk: some nodes, each with its height, whose leaves are still to come.
use Rattle.std.specs.Prelude.{ℕ, zero, suc, List, [], ◌++◌, slice_index, slice_index_or}
use Rattle.zk_model.specs.Tree.{tree_leaves}

-- the leaves below so many nodes, the last node's first
unfoldable pub leaves_left : List (List ℕ) → List ℕ → ℕ → List ℕ
leaves_left nodes heights zero = []
leaves_left nodes heights (suc held) =
    tree_leaves (slice_index_or nodes held []) (slice_index heights held) ++ leaves_left nodes heights held
