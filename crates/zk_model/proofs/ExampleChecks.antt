-- The field and the check of one product and of one opened wire, at worked examples, by computation.
use Rattle.std.proofs.Common.{◌≡◌, ℕ, ◌^◌, [], ◌∷◌, refl}
use Rattle.std.specs.Int.{w64, from_le_bytes}
use Rattle.zk_model.specs.Field.{prime, ◌*ₚ◌, from_word}
use Rattle.zk_model.specs.Polynomial.{IsRoot}
use Rattle.zk_model.specs.Mac.{Pair, fitting_key}
use Rattle.zk_model.specs.Check.{Triple, constant_part, linear_part, honest_sums, section_left, section_right, opening_right, error_polynomial, key_polynomial, opening_polynomial}

-- ---- the field

minus_one_squared : 2305843009213693950 *ₚ 2305843009213693950 ≡ 1
minus_one_squared = refl

half_times_two : 2 ^ 60 *ₚ 2 ≡ 1
half_times_two = refl

-- the bytes ff ff ff ff ff ff ff 1f spell the prime itself, which is no element
bytes_of_the_prime : from_le_bytes w64 (255 ∷ 255 ∷ 255 ∷ 255 ∷ 255 ∷ 255 ∷ 255 ∷ 31 ∷ []) ≡ prime
bytes_of_the_prime = refl

-- a word that stands for no bit above the 61st
a_word : from_word 0xd59d71f7ff084737 ≡ 0x159d71f7ff084737
a_word = refl

-- ---- the check of one product: key 5, challenge 2, the mask (4, 9) with its key 29

pair : ℕ → ℕ → Pair
pair x m = record { x = x; m = m }

honest : Triple
honest = record { a = record { x = 1; m = 10 }; b = record { x = 1; m = 20 }; c = record { x = 1; m = 7 } }

-- the product is claimed to be 0
cheating : Triple
cheating = record { a = record { x = 1; m = 10 }; b = record { x = 1; m = 20 }; c = record { x = 0; m = 7 } }

the_mask : Pair
the_mask = record { x = 4; m = 9 }

honest_keys : fitting_key 5 honest.a ∷ fitting_key 5 honest.b ∷ fitting_key 5 honest.c ∷ fitting_key 5 the_mask ∷ fitting_key 5 cheating.c ∷ [] ≡ 15 ∷ 25 ∷ 12 ∷ 29 ∷ 7 ∷ []
unfolding honest the_mask cheating
honest_keys = refl

honest_parts : constant_part honest ∷ linear_part honest ∷ [] ≡ 200 ∷ 23 ∷ []
unfolding honest
honest_parts = refl

sums_of_honest : honest_sums 2 (honest ∷ []) the_mask ≡ (409, 50)
unfolding honest the_mask
sums_of_honest = refl

honest_left : section_left 5 2 (record { a = 15; b = 25; c = 12 } ∷ []) 29 ≡ 659
honest_left = refl

honest_right : section_right 5 (409, 50) ≡ 659
honest_right = refl

-- the same sums do not fit the false product
cheating_left : section_left 5 2 (record { a = 15; b = 25; c = 7 } ∷ []) 29 ≡ 709
cheating_left = refl

-- a sum of 459 does, and the key is then a root
lucky_right : section_right 5 (459, 50) ≡ 709
lucky_right = refl

lucky_polynomial : key_polynomial 2 (cheating ∷ []) the_mask (459, 50) ≡ 2305843009213693901 ∷ 0 ∷ 2 ∷ []
unfolding cheating the_mask
lucky_polynomial = refl

lucky_root : IsRoot (key_polynomial 2 (cheating ∷ []) the_mask (459, 50)) 5
unfolding cheating the_mask
lucky_root = refl

-- errors of -2 and 1 cancel at the challenge 2
triple_of : ℕ → ℕ → ℕ → Triple
triple_of a b c = record { a = record { x = a; m = 0 }; b = record { x = b; m = 0 }; c = record { x = c; m = 0 } }

cancelling : error_polynomial (triple_of 1 1 3 ∷ triple_of 1 1 0 ∷ []) ≡ 0 ∷ 2305843009213693949 ∷ 1 ∷ []
unfolding triple_of
cancelling = refl

cancelling_root : IsRoot (error_polynomial (triple_of 1 1 3 ∷ triple_of 1 1 0 ∷ [])) 2
unfolding triple_of
cancelling_root = refl

-- ---- openings: the output (1, 7) with its key 12, under the key 5

opening_holds : opening_right 5 7 1 ≡ 12
opening_holds = refl

lucky_opening : opening_right 5 12 0 ≡ 12
lucky_opening = refl

lucky_opening_polynomial : opening_polynomial (pair 1 7) 12 0 ≡ 2305843009213693946 ∷ 1 ∷ []
unfolding pair
lucky_opening_polynomial = refl

lucky_opening_root : IsRoot (opening_polynomial (pair 1 7) 12 0) 5
unfolding pair
lucky_opening_root = refl

opening_fails : opening_right 5 8 1 ≡ 13
opening_fails = refl
