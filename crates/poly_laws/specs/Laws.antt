-- What the definitions of constraints and of their check promise (Yang, Sarkar, Weng and Wang, QuickSilver, ACM CCS 2021).
use Rattle.std.specs.Prelude.{◌≡◌, ℕ, ◌+◌, ◌%◌, ◌^◌, ◌≤◌, List, map, take, length, All}
use Rattle.zk_model.specs.Field.{prime, ◌+ₚ◌, ◌*ₚ◌}
use Rattle.zk_model.specs.Polynomial.{value_at}
use Rattle.zk_model.specs.Mac.{Pair, fitting_key, values_of}
use Rattle.poly_model.specs.Constraints.{Term, Constraints, polynomial_value, AreMet, degree}
use Rattle.poly_model.specs.ConstraintCheck.{key_part, constraint_polynomial, honest_sums, left_side, error_polynomial, HoldsOver, Shows}

-- with keys K = M + x * key, B of a constraint is the sum of A of l times the key to the l, for l below the degree, and of
-- f(x) times the key to the degree
abbrev pub PartExpands : Type 0
PartExpands = (degree key : ℕ) (pairs : List Pair) (terms : List Term) → All (λ term. length term.factors ≤ degree) terms
    → key_part degree key (map (fitting_key key) pairs) terms
    ≡ value_at (take degree (constraint_polynomial degree pairs terms)) key
    +ₚ polynomial_value (values_of pairs) terms *ₚ (key ^ degree % prime)

-- and so the left side of the check is what an honest prover's sums give at the key, and the errors at the challenge times the
-- key to the degree
abbrev pub LeftExpands : Type 0
LeftExpands = (constraints : Constraints) (pairs masks : List Pair) (key challenge : ℕ)
    → length masks + 1 ≡ degree constraints
    → left_side constraints (map (fitting_key key) pairs) key challenge (map (fitting_key key) masks)
    ≡ value_at (honest_sums constraints pairs challenge masks) key
    +ₚ value_at (error_polynomial constraints (values_of pairs)) challenge *ₚ (key ^ degree constraints % prime)

-- a check that holds, whatever was sent, leaves three ways out
abbrev pub CheckShows : Type 0
CheckShows = (constraints : Constraints) (pairs masks : List Pair) (challenge key : ℕ) (sums : List ℕ)
    → length masks + 1 ≡ degree constraints → length sums ≡ degree constraints
    → HoldsOver constraints pairs challenge masks sums key
    → Shows constraints pairs challenge masks sums key

-- where the values meet every constraint, what an honest prover sends meets the check, whatever the challenge and the key
abbrev pub HonestSumsHold : Type 0
HonestSumsHold = (constraints : Constraints) (pairs masks : List Pair) (challenge key : ℕ)
    → length masks + 1 ≡ degree constraints
    → AreMet constraints (values_of pairs)
    → HoldsOver constraints pairs challenge masks (honest_sums constraints pairs challenge masks) key
