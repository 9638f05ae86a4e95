-- What the definitions of trees promise of both ways to grow one.
use Rattle.std.specs.Prelude.{◌≡◌, ℕ, ◌^◌, ◌<◌, List, [], slice_index_or, slice_set, nat_eq}
use Rattle.zk_model.specs.Bytes.{AreBytes}
use Rattle.zk_model.specs.Tree.{level_sum, tree_leaves, side_away, IsPunctured}

-- From the sums of one tree, on the sides away from a leaf, come the leaves of that tree, with 0 at the leaf.
abbrev pub PuncturedIsGrown : Type 0
PuncturedIsGrown = (h alpha : ℕ) (root : List ℕ) (sums : List (List ℕ)) (found : List ℕ)
    → AreBytes 16 root → alpha < 2 ^ h
    → ((level : ℕ) → level < h
    → slice_index_or sums level [] ≡ level_sum root level (nat_eq (side_away h alpha level) 1))
    → IsPunctured h alpha sums found → found ≡ slice_set (tree_leaves root h) alpha 0
