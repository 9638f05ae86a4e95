-- Noise, trees, transfers and corrections at worked examples, by computation.
use Rattle.std.proofs.Common.{◌≡◌, true, false, [], ◌∷◌, refl}
use Rattle.zk_model.specs.Field.{◌-ₚ◌}
use Rattle.zk_model.specs.Mac.{Pair, AreKeysOf, corrected_pair, corrected_key}
use Rattle.zk_model.specs.Tree.{path_to, side_away}
use Rattle.zk_model.specs.Extension.{flip_for, masked_messages, unmasked_message, leaf_offset_of, noise_vector, place_of}

-- ---- noise: key 5, leaves 11 and 13, place 1, base (3, 4) with its key 19, and the value 7

base : Pair
base = record { x = 3; m = 4 }

base_corrected : 7 -ₚ 3 ≡ 4
base_corrected = refl

offset_sent : leaf_offset_of 5 19 4 (11 ∷ 13 ∷ []) ≡ 15
offset_sent = refl

noise_found : noise_vector 1 base 4 15 (11 ∷ 0 ∷ []) ≡ record { x = 0; m = 11 } ∷ record { x = 7; m = 2305843009213693929 } ∷ []
unfolding base
noise_found = refl

noise_keys : AreKeysOf 5 (noise_vector 1 base 4 15 (11 ∷ 0 ∷ [])) (11 ∷ 13 ∷ [])
unfolding base
noise_keys = refl

-- ---- a tree of height 2 without leaf 2: the left side of the first level, and the right side of the second

path_to_two : path_to 2 2 ≡ true ∷ false ∷ []
path_to_two = refl

place_again : place_of (path_to 2 2) ≡ 2
place_again = refl

sides_away : side_away 2 2 0 ∷ side_away 2 2 1 ∷ [] ≡ 0 ∷ 1 ∷ []
sides_away = refl

-- ---- a transfer: the prover has the right pad and chooses the left message

flipped : flip_for true false ≡ true
flipped = refl

masked_left : masked_messages (record { left = 1 ∷ 2 ∷ []; right = 16 ∷ 32 ∷ [] }) true (record { left = 64 ∷ 65 ∷ []; right = 66 ∷ 67 ∷ [] })
    ≡ record { left = 80 ∷ 97 ∷ []; right = 67 ∷ 65 ∷ [] }
masked_left = refl

unmasked_left : unmasked_message (16 ∷ 32 ∷ []) false (record { left = 80 ∷ 97 ∷ []; right = 67 ∷ 65 ∷ [] }) ≡ 64 ∷ 65 ∷ []
unmasked_left = refl

-- ---- a correction of (3, 4) with its key 19 to the value 1, under the key 5

correction : 1 -ₚ 3 ≡ 2305843009213693949
correction = refl

corrected : corrected_pair base 2305843009213693949 ≡ record { x = 1; m = 4 }
unfolding base
corrected = refl

corrected_key_fits : corrected_key 5 19 2305843009213693949 ≡ 9
corrected_key_fits = refl
