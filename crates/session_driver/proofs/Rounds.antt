-- Two sessions whose turns begin alike.
use Rattle.std.proofs.Common.{◌≡◌, ℕ, List, [], ◌∷◌, ◌++◌, flat_map, length, refl, subst, arith}
use Rattle.zk_model.specs.Program.{Program}
use Rattle.zk_model.specs.Files.{AreParams}
use Rattle.zk_model.specs.Transcript.{Hello, Grant, Round, Setup, Transcript, IsHello, IsGrant, IsRound, hello_frame, grant_frame, ask_frame, reply_frame, corrections_frame, challenge_frame, sums_frame, openings_frame, verdict_frame, setup_turns, session_turns}
use Rattle.zk_model.specs.declared.Params.{Params}
use Rattle.frame_laws.proofs.Codes.{many_code}
use Rattle.frame_laws.proofs.FrameCodes.{hello_code, grant_code, asks_code, replies_code}

-- what is said in two turns begins what is said in two others, or goes on with it; and so does what is answered
pub record BeginAlike (first second one two : List ℕ × List ℕ) : Type 0 where
  pub said_here : List ℕ
  pub said_there : List ℕ
  pub same_said : first.0 ++ (second.0 ++ said_here) ≡ one.0 ++ (two.0 ++ said_there)
  pub answered_here : List ℕ
  pub answered_there : List ℕ
  pub same_answered : first.1 ++ (second.1 ++ answered_here) ≡ one.1 ++ (two.1 ++ answered_there)

-- ---- one round of two sessions

-- the two turns in which the correlations of kind extended are fixed
abbrev pub first_of : Hello → Grant → List ℕ × List ℕ
first_of greeting grant = (hello_frame greeting, grant_frame grant)

abbrev pub round_of : Round → List ℕ × List ℕ
round_of round = (flat_map ask_frame round.asks, flat_map reply_frame round.replies)

-- rounds that begin alike are one, under one grant
pub record AreSame (grant other : Grant) (round another : Round) : Type 0 where
  pub grants : grant ≡ other
  pub asks : round.asks ≡ another.asks
  pub replies : round.replies ≡ another.replies

pub same_rounds : (params : Params) (program : Program) (hello other : Hello) (given granted : Grant) (round another : Round) → AreParams params
    → IsHello hello → IsHello other → IsGrant params program given → IsGrant params program granted → IsRound params given round → IsRound params granted another
    → BeginAlike (first_of hello given) (round_of round) (first_of other granted) (round_of another) → AreSame given granted round another
same_rounds params program greeting other given granted round another are greets greets_too grants grants_too is is_too alike =
    let greeted = hello_code greeting other (flat_map ask_frame round.asks ++ alike.said_here) (flat_map ask_frame another.asks ++ alike.said_there) greets greets_too alike.same_said in
    let one = grant_code params program are given granted (flat_map reply_frame round.replies ++ alike.answered_here) (flat_map reply_frame another.replies ++ alike.answered_there)
    grants grants_too alike.same_answered in
    let ranged = subst (λ (g : Grant). IsRound params g round) one.0 is in
    record {
      grants = one.0;
      asks = (many_code ask_frame _ granted.count (asks_code params.height params.trees) round.asks another.asks alike.said_here alike.said_there
          ranged.asks is_too.asks greeted.1).0;
      replies = (many_code reply_frame _ granted.count (replies_code params.height params.trees) round.replies another.replies
          alike.answered_here alike.answered_there ranged.replies is_too.replies one.1).0;
    }

-- a list of one item
pub only : {A : Type 0} (items : List A) → length items ≡ 1 → (item : A) × (items ≡ item ∷ [])
only [] one = absurd (omega (arith, one))
only (item ∷ []) one = (item, refl)
only (item ∷ next ∷ more) one = absurd (omega (arith, one))

-- the turns of a session with one round
pub turns_of : (t : Transcript) (round : Round) → t.commitment.setup.rounds ≡ round ∷ []
    → session_turns t ≡ first_of t.commitment.setup.hello t.commitment.setup.grant ∷ round_of round
    ∷ (corrections_frame t.commitment.corrections, challenge_frame t.challenge)
    ∷ (sums_frame t.sums ++ openings_frame t.openings, verdict_frame t.code t.number) ∷ []
turns_of t round is = λ i. session_turns (record t { commitment = record t.commitment { setup = record t.commitment.setup { rounds = is i } } })

pub setup_turns_of : (setup : Setup) (round : Round) → setup.rounds ≡ round ∷ []
    → setup_turns setup ≡ first_of setup.hello setup.grant ∷ round_of round ∷ []
setup_turns_of setup round is = λ i. setup_turns (record setup { rounds = is i })
