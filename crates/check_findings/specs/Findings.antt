-- What a section or an opened wire shows that met its check.
use Rattle.std.specs.Prelude.{◌≡◌, ℕ, List, map}
use Rattle.zk_model.specs.Polynomial.{IsNonzero, IsRoot}
use Rattle.zk_model.specs.Mac.{Pair, fitting_key}
use Rattle.zk_model.specs.Check.{Triple, KeyTriple, section_left, section_right, opening_right, error_polynomial, key_polynomial, opening_polynomial}
use Rattle.check_findings.specs.declared.finding.Finding.{Finding}
use Rattle.check_findings.specs.declared.finding.Finding.TheVariants.{Inputs, ChallengeRoot, KeyRoot, NotAccepted}

-- ---- the equations

-- the keys that fit a product's pairs
abbrev pub fitting_triple : ℕ → Triple → KeyTriple
fitting_triple key t = record { a = fitting_key key t.a; b = fitting_key key t.b; c = fitting_key key t.c }

-- the equation of a section holds, where the verifier holds this key and those that fit the pairs
abbrev pub SectionMeets : ℕ → List Triple → Pair → ℕ × ℕ → ℕ → Type 0
SectionMeets challenge triples mask sent key =
    section_left key challenge (map (fitting_triple key) triples)
    (fitting_key key mask) ≡ section_right key sent

-- and so does that of an opened wire
abbrev pub OpeningMeets : Pair → ℕ → ℕ → ℕ → Type 0
OpeningMeets output mac claim key = fitting_key key output ≡ opening_right key mac claim

-- ---- what is shown

-- a polynomial that is not zero, and of which every key is a root with which an equation holds
pub record HasKeysAsRoots (Meets : ℕ → Type 0) (polynomial : List ℕ) : Type 0 where
  pub nonzero : IsNonzero polynomial
  pub roots : (key : ℕ) → Meets key → IsRoot polynomial key

-- the errors, of which the challenge is a root
pub record IsErrorRoot (challenge : ℕ) (triples : List Triple) (polynomial : List ℕ) : Type 0 where
  pub polynomial_is : polynomial ≡ error_polynomial triples
  pub met : IsRoot polynomial challenge

-- the polynomial in the key of a section whose errors have no root at the challenge
pub record IsSumRoot
    (challenge : ℕ)
    (triples : List Triple)
    (mask : Pair)
    (sent : ℕ × ℕ)
    (polynomial : List ℕ) : Type 0 where
  pub unmet : ¬ IsRoot (error_polynomial triples) challenge
  pub polynomial_is : polynomial ≡ key_polynomial challenge triples mask sent
  pub keys : HasKeysAsRoots (SectionMeets challenge triples mask sent) polynomial

-- what a section shows of which not every product is right
abbrev pub ShowsSection : ℕ → List Triple → Pair → ℕ × ℕ → Finding → Type 0
ShowsSection challenge triples mask sent (Inputs inputs) = ⊥
ShowsSection challenge triples mask sent (ChallengeRoot section polynomial) =
    (section ≡ 0) × IsErrorRoot challenge triples polynomial.items
ShowsSection challenge triples mask sent (KeyRoot polynomial) =
    IsSumRoot challenge triples mask sent polynomial.items
ShowsSection challenge triples mask sent NotAccepted = ⊥

-- the polynomial in the key of an opened wire
pub record IsMacRoot (output : Pair) (mac claim : ℕ) (polynomial : List ℕ) : Type 0 where
  pub polynomial_is : polynomial ≡ opening_polynomial output mac claim
  pub keys : HasKeysAsRoots (OpeningMeets output mac claim) polynomial

-- what an opened wire shows that is not as claimed
abbrev pub ShowsOpening : Pair → ℕ → ℕ → Finding → Type 0
ShowsOpening output mac claim (Inputs inputs) = ⊥
ShowsOpening output mac claim (ChallengeRoot section polynomial) = ⊥
ShowsOpening output mac claim (KeyRoot polynomial) = IsMacRoot output mac claim polynomial.items
ShowsOpening output mac claim NotAccepted = ⊥
