-- What a session proves, as a claim: how a hello names it, what it commits, where the prover answers, its check, and what acceptance shows.
use Rattle.std.specs.Prelude.{◌≡◌, ℕ, ◌+◌, ◌≤◌, List, [], ◌∷◌, length}
use Rattle.zk_model.specs.Field.{IsElement}
use Rattle.zk_model.specs.Mac.{Pair, AreKeysOf}
use Rattle.zk_model.specs.Transcript.{Hello}
use Rattle.zk_model.specs.Frames.{Frame, Allows, AreElements}
use Rattle.zk_model.specs.declared.Expect.{Expect}
use Rattle.zk_model.specs.declared.Expect.TheVariants as expect
use Rattle.session_core.specs.Judgements.{verdict_in}
use Rattle.session_core.specs.declared.fault.HelloDiffers.{HelloDiffers}
use Rattle.session_core.specs.declared.judgement.Judgement.{Judgement}
use Rattle.session_core.specs.declared.judgement.Judgement.TheVariants.{Accepted}

-- what the check of a session is over, beside keys or pairs: what the prover sent, and the challenge
pub record Exchange : Type 0 where
  pub section_length : ℕ
  pub corrections : List ℕ
  pub challenge : ℕ
  pub answers : List Frame

-- frames at their places, one for one
abbrev pub AllowsEach : List Expect → List Frame → Type 0
AllowsEach [] [] = Unit {0}
AllowsEach [] (frame ∷ frames) = ⊥
AllowsEach (place ∷ places) [] = ⊥
AllowsEach (place ∷ places) (frame ∷ frames) = Allows place frame × AllowsEach places frames

-- the place of a hello
abbrev pub IsGreeting : Expect → Type 0
IsGreeting expect.Hello = Unit {0}
IsGreeting expect.ShortHello = Unit {0}
IsGreeting place = ⊥

-- the place of a verdict
abbrev pub IsVerdictPlace : Expect → Type 0
IsVerdictPlace expect.Verdict = Unit {0}
IsVerdictPlace expect.PolyVerdict = Unit {0}
IsVerdictPlace place = ⊥

-- places where the prover answers a challenge
abbrev pub AreAnswers : List Expect → Type 0
AreAnswers [] = Unit {0}
AreAnswers (expect.Sums sections ∷ places) = AreAnswers places
AreAnswers (expect.Openings count ∷ places) = AreAnswers places
AreAnswers (expect.PolySums count ∷ places) = AreAnswers places
AreAnswers (place ∷ places) = ⊥

-- A claim: the place of its hello; the hellos that are for it, with files of this id, and what differs first in another; how many values
-- it commits; how many masks it takes, and the places of the prover's answers, by the length of sections; the place of the verdict; what a verifier finds, by its
-- key, the keys of all correlations and the exchange; and what acceptance shows, of the prover's pairs, the exchange and the key.
pub record Claim : Type 1 where
  pub greeting : Expect
  pub greets : List ℕ → Hello → Type 0
  pub differs : List ℕ → Hello → HelloDiffers → Type 0
  pub givens : ℕ
  pub masks : ℕ → ℕ
  pub answers : ℕ → List Expect
  pub verdict : Expect
  pub judges : ℕ → List ℕ → Exchange → Judgement → Type 0
  pub shows : List Pair → Exchange → ℕ → Type 0

-- its hello, its answers and its verdict stand where they may
pub record HasPlaces (claim : Claim) : Type 0 where
  pub greeting : IsGreeting claim.greeting
  pub answers : (section_length : ℕ) → AreAnswers (claim.answers section_length)
  pub verdict : IsVerdictPlace claim.verdict

-- how many correlations a session about it takes
abbrev pub claim_needs : Claim → ℕ → ℕ
claim_needs claim section_length = claim.givens + claim.masks section_length

-- an exchange about it: so many corrections, a challenge, and answers at their places
pub record IsExchange (claim : Claim) (exchange : Exchange) : Type 0 where
  pub corrections : AreElements claim.givens exchange.corrections
  pub challenge : IsElement exchange.challenge
  pub answers : AllowsEach (claim.answers exchange.section_length) exchange.answers

-- Acceptance shows what a claim says of it, where the keys fit the pairs and are enough.
abbrev pub IsSound : Claim → Type 0
IsSound claim = (key : ℕ) (pairs : List Pair) (keys : List ℕ) (exchange : Exchange)
    → IsElement key → AreKeysOf key pairs keys → claim_needs claim exchange.section_length ≤ length keys
    → IsExchange claim exchange → claim.judges key keys exchange Accepted → claim.shows pairs exchange key

-- A hello that differs is none for a claim, and what is found of an exchange by the same keys says one verdict.
pub record IsDecided (claim : Claim) : Type 0 where
  pub hellos : (id : List ℕ) (said : Hello) (difference : HelloDiffers) → claim.differs id said difference → ¬ claim.greets id said
  pub verdicts : (key : ℕ) (keys : List ℕ) (exchange : Exchange) (one other : Judgement) → claim.judges key keys exchange one
      → claim.judges key keys exchange other → verdict_in one ≡ verdict_in other
