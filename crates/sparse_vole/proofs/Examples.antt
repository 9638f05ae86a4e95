-- A worked row, by computation: the key 5, the leaves 11 and 13, the place 1, a base pair (3, 4) with its key 19, and the
-- value 7.
use Rattle.std.proofs.Common.{◌≡◌, List, [], ◌∷◌, refl}
use Rattle.zk_model.specs.Field.{◌-ₚ◌}
use Rattle.zk_model.specs.Mac.{Pair, corrected_key, AreKeysOf}
use Rattle.zk_model.specs.Extension.{leaf_offset_of}
use Rattle.sparse_vole.specs.Noise.{IsNoise}

entries : List Pair
entries = record { x = 0; m = 11 } ∷ record { x = 7; m = 2305843009213693929 } ∷ []

asked : 7 -ₚ 3 ≡ 4
asked = refl

answered : leaf_offset_of 5 19 4 (11 ∷ 13 ∷ []) ≡ 15
answered = refl

answered_sum : corrected_key 5 19 4 -ₚ 24 ≡ 15
answered_sum = refl

-- no other entries are a noise vector
found : (others : List Pair) → IsNoise 1 7 4 15 (11 ∷ 0 ∷ []) others → others ≡ entries
unfolding entries
found others is = is (record { x = 3; m = 4 }) 4 refl

keys_fit : AreKeysOf 5 entries (11 ∷ 13 ∷ [])
unfolding entries
keys_fit = refl
