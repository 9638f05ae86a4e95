-- What a prover's values show whose sums met the check with some key.
use Rattle.std.specs.Prelude.{◌≡◌, ℕ, List, length}
use Rattle.zk_model.specs.Polynomial.{IsRoot, IsNamedRoot}
use Rattle.zk_model.specs.Mac.{Pair, values_of}
use Rattle.poly_model.specs.Constraints.{Constraints, AreMet, degree}
use Rattle.poly_model.specs.ConstraintCheck.{HoldsOver, error_polynomial, key_polynomial}
use Rattle.poly_check.specs.declared.finding.PolyFinding.{PolyFinding}
use Rattle.poly_check.specs.declared.finding.PolyFinding.TheVariants.{Values, ChallengeRoot, KeyRoot}

-- the errors, which are not all 0, and of which the challenge is a root
pub record IsErrorRoot
    (constraints : Constraints)
    (pairs : List Pair)
    (challenge : ℕ)
    (polynomial : List ℕ) : Type 0 where
  pub polynomial_is : polynomial ≡ error_polynomial constraints (values_of pairs)
  pub named : IsNamedRoot (length constraints.polynomials) polynomial challenge

-- the challenge is no root of the errors, and this polynomial is not zero, and each key with which the check holds is a root
-- of it
pub record IsSumRoot
    (constraints : Constraints)
    (pairs : List Pair)
    (challenge : ℕ)
    (masks : List Pair)
    (sums polynomial : List ℕ) : Type 0 where
  pub unmet : ¬ IsRoot (error_polynomial constraints (values_of pairs)) challenge
  pub polynomial_is : polynomial ≡ key_polynomial constraints pairs challenge masks sums
  pub named : (key : ℕ) → HoldsOver constraints pairs challenge masks sums key
      → IsNamedRoot (degree constraints) polynomial key

-- what each answer says
abbrev pub ShowsValues : Constraints → List Pair → ℕ → List Pair → List ℕ → PolyFinding → Type 0
ShowsValues constraints pairs challenge masks sums Values = AreMet constraints (values_of pairs)
ShowsValues constraints pairs challenge masks sums (ChallengeRoot polynomial) =
    IsErrorRoot constraints pairs challenge polynomial.items
ShowsValues constraints pairs challenge masks sums (KeyRoot polynomial) =
    IsSumRoot constraints pairs challenge masks sums polynomial.items
