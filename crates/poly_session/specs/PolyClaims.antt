-- Constraints as what a session proves: values that meet all of them.
use Rattle.std.specs.Prelude.{◌≡◌, ◌≢◌, ◌-◌, ℕ, None, List, [], ◌∷◌, take, drop}
use Rattle.sha2.specs.Sha256.{sha256}
use Rattle.zk_model.specs.Frames.{poly_sums}
use Rattle.zk_model.specs.Mac.{corrected_pairs, corrected_keys}
use Rattle.zk_model.specs.Transcript.{Hello}
use Rattle.zk_model.specs.declared.Expect.TheVariants as expect
use Rattle.poly_model.specs.Constraints.{Constraints, degree}
use Rattle.poly_model.specs.ConstraintCheck.{Holds, Shows, left_side, right_side}
use Rattle.session_core.specs.Cores.{digests_said}
use Rattle.session_core.specs.declared.fault.Digests.{Digests}
use Rattle.session_core.specs.declared.fault.HelloDiffers.{HelloDiffers}
use Rattle.session_core.specs.declared.fault.HelloDiffers.TheVariants as differs
use Rattle.session_core.specs.declared.judgement.Judgement.{Judgement}
use Rattle.session_core.specs.declared.judgement.Judgement.TheVariants.{Accepted, RejectedSum, RejectedOpening}
use Rattle.session_claim.specs.Claims.{Claim, Exchange}

-- ---- hellos

-- a hello for files of this id and constraints of a text with this digest: of 97 bytes, version 3, and no outputs
pub record IsPolyHello (id digest : List ℕ) (hello : Hello) : Type 0 where
  pub id_is : hello.id ≡ id
  pub form : hello.public ≡ None
  pub version : hello.version ≡ 3
  pub circuit : hello.circuit ≡ digest
  pub outputs : hello.outputs ≡ sha256 []

-- the digests that it says
abbrev pub poly_digests : List ℕ → Digests
poly_digests digest = record { circuit = digest; outputs = sha256 []; public = sha256 [] }

-- what differs first in another, with what is wanted and what came
abbrev pub PolyDiffersFirst : List ℕ → List ℕ → Hello → HelloDiffers → Type 0
PolyDiffersFirst id digest said (differs.Id want got) = (want ≡ id) × (got ≡ said.id) × (want ≢ got)
PolyDiffersFirst id digest said (differs.Version want got) = (said.id ≡ id) × (want ≡ 3) × (got ≡ said.version) × (want ≢ got)
PolyDiffersFirst id digest said (differs.Statement want got) =
    (said.id ≡ id) × (said.version ≡ 3) × (want ≡ poly_digests digest) × (got ≡ digests_said said) × (want ≢ got)

-- ---- the check

-- the masks: one fewer than the degree, after those of the values
abbrev pub masks_of : {A : Type 0} → Constraints → List A → List A
masks_of constraints items = take (degree constraints - 1) (drop constraints.variables items)

-- what a verifier finds of sums that were sent, by its key, the keys of all correlations, the corrections and the challenge
abbrev pub PolyJudges : Constraints → ℕ → List ℕ → List ℕ → ℕ → List ℕ → Judgement → Type 0
PolyJudges constraints key keys corrections challenge sums Accepted =
    Holds constraints (corrected_keys key keys corrections) key challenge (masks_of constraints keys) sums
PolyJudges constraints key keys corrections challenge sums (RejectedSum section left right) =
    (section ≡ 0)
    × (left ≡ left_side constraints (corrected_keys key keys corrections) key challenge (masks_of constraints keys))
    × (right ≡ right_side key sums)
    × (left ≢ right)
PolyJudges constraints key keys corrections challenge sums (RejectedOpening output left right) = ⊥

-- ---- the claim

-- the prover's one answer
abbrev pub AnswersBy : Exchange → List ℕ → Type 0
AnswersBy exchange sums = exchange.answers ≡ poly_sums sums ∷ []

-- That values meet all constraints of a text with this digest. Acceptance shows one of three: the values that the prover has fixed meet
-- all; or the challenge is a root of the errors, which are not all 0; or the key is a root of a polynomial that is not zero, of the
-- degree of the constraints at most.
abbrev pub poly_claim : Constraints → List ℕ → Claim
poly_claim constraints digest = record {
  greeting = expect.ShortHello;
  greets = λ id hello. IsPolyHello id digest hello;
  differs = λ id hello what. PolyDiffersFirst id digest hello what;
  givens = constraints.variables;
  masks = λ section_length. degree constraints - 1;
  answers = λ section_length. expect.PolySums (degree constraints) ∷ [];
  verdict = expect.PolyVerdict;
  judges = λ key keys exchange judgement. (sums : List ℕ) × AnswersBy exchange sums
      × PolyJudges constraints key keys exchange.corrections exchange.challenge sums judgement;
  shows = λ pairs exchange key. (sums : List ℕ) × AnswersBy exchange sums
      × Shows constraints (corrected_pairs pairs exchange.corrections) exchange.challenge (masks_of constraints pairs) sums key;
}
