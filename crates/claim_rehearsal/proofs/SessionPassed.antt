-- What both ends say makes a session about a claim that the verifier serves and whose prover is honest.
use Rattle.std.proofs.Common.{◌≡◌, ◌∙◌, ◌+◌, ◌*◌, ◌≤◌, ◌++◌, ◌∷◌, [], List, ℕ, inl, length, map, refl, sym, ap, subst, arith}
use Rattle.std.specs.Prelude.{All}
use Rattle.std.proofs.lemmas.List.Elements.{All-append, All-cons, All-head, All-nil, All-rest}
use Rattle.zk_model.specs.Correlations.{span_keys}
use Rattle.zk_model.specs.Files.{ProverFile, VerifierFile, IsProverFile, IsVerifierFile, AreDealt, AreParams, correlations_per_unit}
use Rattle.zk_model.specs.Frames.{Frame, Allows, hello, grant, corrections, challenge, verdict}
use Rattle.zk_model.specs.Mac.{Pair}
use Rattle.zk_model.specs.Transcript.{Hello, Grant}
use Rattle.zk_model.specs.View.{span_of, verdict_code, verdict_number}
use Rattle.zk_model.specs.declared.Expect.{Expect}
use Rattle.zk_model.specs.declared.Expect.TheVariants as expect
use Rattle.zk_model.specs.declared.Params.{Params}
use Rattle.zk_laws.specs.Keys.{KeysFit}
use Rattle.zk_laws.specs.SeenPairs.{AreRounds}
use Rattle.zk_laws.proofs.Views.{gives_some, parts_hold}
use Rattle.proof_frames.specs.Frames.{frame_value, IsShort}
use Rattle.proof_frames.specs.Readings.{IsShortPlace}
use Rattle.session_core.specs.Judgements.{verdict_in}
use Rattle.session_script.specs.Scripts.{log_of}
use Rattle.session_script.proofs.Scripting.{short_frame}
use Rattle.session_claim.specs.Claims.{Claim, AllowsEach, claim_needs}
use Rattle.claim_prover.specs.Telling.{Knowledge, SuitsClaim}
use Rattle.claim_verifier.specs.Served.{ClaimSession}
use Rattle.claim_rehearsal.specs.Passed.{ArePassedRounds, IsAnswered, IsClaimPassed, exchange_of, passed_frames}
use Rattle.claim_rehearsal.specs.declared.passing.Answers.{Answers}

-- ---- enough correlations

-- the units of a grant that suits give as many as the claim needs
pub enough : (claim : Claim) (params : Params) (given : Grant) (count : ℕ) → AreParams params → SuitsClaim claim params given
    → count ≡ given.count * correlations_per_unit params → claim_needs claim given.section_length ≤ count
enough claim params given count are suits counted =
    subst (λ (n : ℕ). claim_needs claim given.section_length ≤ n) (sym counted)
    (parts_hold (claim_needs claim given.section_length) (correlations_per_unit params) given.count (gives_some params params.kind are.limits) suits.count)

-- ---- short frames

-- frames at short places are short
places_short : (places : List Expect) (frames : List Frame) → All IsShortPlace places → AllowsEach places frames → All IsShort frames
places_short [] [] short allowed = All-nil IsShort
places_short [] (frame ∷ frames) short allowed = absurd allowed
places_short (place ∷ places) [] short allowed = absurd allowed
places_short (place ∷ places) (frame ∷ frames) short allowed =
    All-cons IsShort frame frames (short_frame place frame (All-head IsShortPlace place places short) allowed.0)
    (places_short places frames (All-rest IsShortPlace place places (place ∷ places) refl short) allowed.1)

pub passed_short : (knows : Knowledge) (file : VerifierFile) (given : Grant) (pairs : List Pair) (keys : List ℕ) (greeting : Hello) (rounds : List Frame) (said : Answers)
    → IsAnswered knows file given pairs keys said
    → IsShortPlace knows.claim.greeting → Allows knows.claim.greeting (hello greeting) → All IsShort rounds
    → IsShortPlace (expect.Corrections knows.claim.givens) → All IsShortPlace (knows.claim.answers given.section_length)
    → IsShortPlace knows.claim.verdict → All IsShort (passed_frames greeting given rounds said)
passed_short knows file given pairs keys greeting rounds said is first greets passed committed answers last =
    let ends = verdict (verdict_code (verdict_in said.judgement)) (verdict_number (verdict_in said.judgement)) in
    let answered = map frame_value said.answers.items in
    let coin : IsShort (challenge said.challenge) =
    short_frame expect.Challenge (challenge said.challenge) (omega arith) (said.challenge, refl, is.exchange.challenge) in
    let sent : IsShort (corrections said.corrections.items) =
    short_frame (expect.Corrections knows.claim.givens) (corrections said.corrections.items) committed (said.corrections.items, refl, is.exchange.corrections) in
    let granted : IsShort (grant given) = omega arith in
    let answering = places_short (knows.claim.answers given.section_length) answered answers is.exchange.answers in
    let setup = hello greeting ∷ grant given ∷ rounds in
    let sending = corrections said.corrections.items ∷ challenge said.challenge ∷ answered in
    All-append IsShort (setup ++ sending) (ends ∷ [])
    (All-append IsShort setup sending
    (All-cons IsShort (hello greeting) (grant given ∷ rounds) (short_frame knows.claim.greeting (hello greeting) first greets)
    (All-cons IsShort (grant given) rounds granted passed))
    (All-cons IsShort (corrections said.corrections.items) (challenge said.challenge ∷ answered) sent
    (All-cons IsShort (challenge said.challenge) answered coin answering)))
    (All-cons IsShort ends [] (short_frame knows.claim.verdict ends last is.placed) (All-nil IsShort))

-- ---- the session

-- what is known of both ends and of what they say
pub record Knows (knows : Knowledge) (prover : ProverFile) (verifier : VerifierFile) (given : Grant) (greeting : Hello) (pairs : List Pair)
    (rounds : List Frame) : Type 0 where
  pub prover_file : IsProverFile prover
  pub verifier_file : IsVerifierFile verifier
  pub dealt : AreDealt prover verifier
  pub suits : SuitsClaim knows.claim verifier.params given
  pub within : given.start + given.count ≤ verifier.params.total
  pub said : greeting ≡ knows.greeting prover.id
  pub greets : knows.claim.greets prover.id greeting
  pub passed : ArePassedRounds prover verifier given pairs rounds
  pub count : length (span_keys verifier (span_of given)) ≡ given.count * correlations_per_unit verifier.params

pub session_passed : (knows : Knowledge) (prover : ProverFile) (verifier : VerifierFile) (given : Grant) (greeting : Hello) (pairs : List Pair) (keys : List ℕ)
    (rounds frames : List Frame) (said : Answers)
    → KeysFit → Knows knows prover verifier given greeting pairs rounds → keys ≡ span_keys verifier (span_of given)
    → IsAnswered knows verifier given pairs keys said → frames ≡ passed_frames greeting given rounds said
    → IsClaimPassed knows prover verifier given said.judgement (log_of frames)
session_passed knows prover verifier given greeting pairs keys rounds frames said law known spanned is are =
    let held = known.passed.held in
    let session : ClaimSession = record {
      setup = record { hello = greeting; grant = given; rounds = known.passed.rounds };
      exchange = exchange_of given said;
      judgement = said.judgement;
    } in
    let ranged : AreRounds verifier.params given known.passed.rounds =
    record { within = known.within; count = held.served.count; each = held.served.ranged } in
    record {
      session = session;
      granted = refl;
      served = record {
        bytes = ap log_of (are ∙ ap (λ l. passed_frames greeting given l said) known.passed.frames_are);
        hello = subst (λ id. knows.claim.greets id greeting) known.dealt.id known.greets;
        grant = λ i. record { start = given.start; count = known.suits.count i; section_length = given.section_length };
        rounds = ranged;
        replies = held.served.replies;
        section = refl;
        coin = is.challenge_is;
        exchange = is.exchange;
        enough = enough knows.claim verifier.params given _ known.verifier_file.params known.suits known.count;
        judged = subst (λ l. knows.claim.judges verifier.key l (exchange_of given said) said.judgement) spanned is.judged;
      };
      pairs = pairs;
      honest = record {
        hello = known.said;
        asks = held.asks;
        seen = held.seen greeting;
        corrections = is.corrections_are;
        answers = is.answers_are;
      };
      fits = law prover verifier session.setup pairs known.prover_file known.verifier_file known.dealt
          (subst (λ (params : Params). AreRounds params given known.passed.rounds) (sym known.dealt.params) ranged)
          held.served.replies (held.seen greeting);
      judgement_is = refl;
    }
