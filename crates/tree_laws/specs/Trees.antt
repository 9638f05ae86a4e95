-- What the definitions of trees promise.
use Rattle.std.specs.Prelude.{◌≡◌, ℕ, ◌^◌, ◌<◌, List, length, All}
use Rattle.zk_model.specs.Bytes.{AreBytes}
use Rattle.zk_model.specs.Tree.{IsPunctured}

-- in a tree without the path to one leaf, the sums determine all leaves
abbrev pub OnePunctured : Type 0
OnePunctured = (h alpha : ℕ) (sums : List (List ℕ)) (some others : List ℕ) → alpha < 2 ^ h
    → IsPunctured h alpha sums some → IsPunctured h alpha sums others → some ≡ others

-- whatever the sums are, one of 16 bytes for each level, they are those of a tree without the path to a leaf
abbrev pub PuncturedExists : Type 0
PuncturedExists = (h alpha : ℕ) (sums : List (List ℕ)) → alpha < 2 ^ h → length sums ≡ h → All (AreBytes 16) sums
    → (found : List ℕ) × IsPunctured h alpha sums found
