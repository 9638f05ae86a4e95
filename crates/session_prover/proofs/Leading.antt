-- From a run of a prover's end to how its session ended.
use Rattle.std.proofs.Common.{◌≡◌, ◌⊎◌, inl, inr, ℕ, ◌+◌, ◌≤◌, List, [], ◌∷◌, ◌++◌, flat_map, length, Bool, true, false, Option, None, Some, Result, Ok, Err, MatchOption, refl, ap, sym, ◌∙◌, subst, append-nil, arith, OnOk, slice_index_or, suc, ◌<◌, append_assoc, length-append}
use Rattle.std.specs.Prelude.{All, IfOk, IsSomeAnd}
use Rattle.zk_model.specs.Transcript.{Grant, bytes_from, Transcript, IsTranscript, sent_by, session_turns, refuse_frame, reply_frame}
use Rattle.zk_model.specs.View.{span_of}
use Rattle.zk_model.specs.Frames.{Frame, grant, verdict, Allows, frame_spelling, IsFirstBad, frame_length}
use Rattle.zk_model.specs.declared.Expect.{Expect}
use Rattle.zk_model.specs.declared.Side.{Side}
use Rattle.zk_model.specs.declared.Side.TheVariants.{Prover, Verifier}
use Rattle.zk_model.specs.declared.Span.{Span}
use Rattle.claim_store.specs.declared.ClaimFault.{ClaimFault}
use Rattle.frame_link.specs.Lines.{LinkSnapshot}
use Rattle.frame_link.specs.declared.fault.LineFault.{LineFault}
use Rattle.frame_link.proofs.LineLemmas.{none_is_some, frame_most, within_longest}
use Rattle.proof_frames.specs.Frames.{IsShort}
use Rattle.session_core.specs.Jobs.{ProverJob, Suits}
use Rattle.session_core.specs.Cores.{ProverStage, ProverState, ProverAnswers, awaits_grant, awaits_replies, awaits_challenge, awaits_verdict, has_ended, prover_expects}
use Rattle.session_driver.specs.Runs.{Turn, said, whole_log, IsTurn, Goes}
use Rattle.session_driver.specs.declared.drive.Outcome.{Outcome}
use Rattle.session_driver.specs.declared.drive.Outcome.TheVariants.{Done, Refused, Cut}
use Rattle.session_driver.proofs.Going.{whole_more, goes_keeps, came_more, one_more}
use Rattle.session_prover.specs.declared.note.ProverOutcome.{ProverOutcome}
use Rattle.session_prover.specs.declared.note.ProverOutcome.TheVariants.{Accepted}
use Rattle.session_prover.specs.Outcomes.{prover_line_outcome}
use Rattle.session_prover.specs.Stages.{Claim, ClaimedFor, IsProverLogAt, IsLogTaken, greeted_log, ClaimantTells, Claimed, IsProving, Proved, AnswersClaimed, ProverAnswersBehind, ReadsAcceptance, Stops, told_claim, greeting_frame, outcome_told, proved, proves, proving_expects, IsSoundJob, IsToAnswer, asked_log}
use Rattle.session_prover.specs.Notes.{granted_of, ProverStopsBehind, IsOutcome, task_of, HasEnded}
use Rattle.std.proofs.lemmas.Option.{same_Some}
use Rattle.session_prover.proofs.Heard.{same_stage, IsNextFrame, same_bytes_grant, turns_at, next_frame, greeted_heard, granted_heard}
use Rattle.session_prover.proofs.Answering.{answer_leads, answer_short, suits_is}
use Rattle.session_prover.proofs.Ending.{well_of, comes, stops_taking, ends_accepted, ends_rejected, some_for, stops_answering, refuses_nothing, Comes, KeepsDue, keeps_due, kept_log}
use Rattle.session_prover.proofs.FirstFrames.{granted_is, grant_taken, ends_ungranted, ends_unclaimed, stops_greeting}
use Rattle.session_prover.proofs.GrantPlace.{none_bad}
use Rattle.std.proofs.lemmas.List.{take_all}
use Rattle.session_laws.proofs.Turns.{answered, fewer_answered}
use Rattle.session_laws.proofs.Sizes.{count_is}
use Rattle.zk_model.specs.Files.{rounds_of}
use Rattle.zk_model.specs.Program.{Program}
use Rattle.zk_model.specs.Statement.{Statement}
use Rattle.zk_laws.specs.Completeness.{AreCounterparts}
use Rattle.zk_model.specs.ServedVerifier.{VerifierTask}
use Rattle.zk_model.specs.declared.Params.{Params}
use Rattle.session_laws.specs.Sessions.{HonestVerdict}
use Rattle.session_prover.specs.Completing.{HasSpoken, HasHonestVerifier, ProverCompletes}
use Rattle.zk_model.specs.declared.Expect.TheVariants as expect
use Rattle.session_prover.specs.declared.note.ProverOutcome.TheVariants as outcome
use Rattle.session_driver.specs.Leaving.{GoesWell, Halts, KeepsBack, PartyLeaves, Misses, TriesCode, ComesAt}

-- From a run of a prover's end to how its session ended.

-- ---- a frame is taken

-- replies or a challenge, where they are awaited
pub log_taken : (job : ProverJob) (claim : Claim) (stage : ProverStage) (frame : Frame) (before : List (Side × ℕ)) → IsToAnswer stage
    → IsProverLogAt job claim stage before → IsSomeAnd (prover_expects job stage) (λ place. Allows place frame)
    → IsLogTaken job claim stage frame (before ++ bytes_from Verifier (frame_spelling frame))
log_taken job claim (awaits_replies given came) frame before answers at (trees, is, are) =
    (trees, is, are, at.0, at.1, (λ i. at.2 i ++ bytes_from Verifier (frame_spelling (is i))) ∙ one_more Verifier reply_frame (asked_log job given) came trees)
log_taken job claim (awaits_challenge given pairs wires) frame before answers at (element, is, ranged) =
    (element, at.0, at.1, is, ranged, at.2, at.3, λ i. at.4 i ++ bytes_from Verifier (frame_spelling (is i)))
log_taken job claim other frame before answers at allowed = absurd answers

-- a grant whose units are claimed
pub grant_log_taken : (job : ProverJob) (claim : Claim) (frame : Frame) (given : Grant) (before : List (Side × ℕ)) → before ≡ greeted_log job
    → frame ≡ grant given → Suits job.file.params job.statement.program given → given.start + given.count ≤ job.file.params.total → ClaimedFor claim given
    → IsLogTaken job claim awaits_grant frame (before ++ bytes_from Verifier (frame_spelling frame))
grant_log_taken job claim frame given before at is suits within claimed =
    (given, is, claimed, granted_is job given suits within, λ i. at i ++ bytes_from Verifier (frame_spelling (is i)))

-- a claimant that was asked
claimed_for : {C : Type 0} (claims : ClaimantTells C) (given : Grant) (old new : C) → Claimed claims given (Ok (span_of given)) old new → ClaimedFor (told_claim claims new) given
claimed_for claims given old new claimed = record { asked = claimed.asked; answer = claimed.told }

-- ---- what a step ensures

pub if_ok_more : {T E : Type 0} (result : Result T E) (P Q : T → Type 0) → ((value : T) → P value → Q value) → IfOk result P → IfOk result Q
if_ok_more (Ok value) P Q more holds = more value holds
if_ok_more (Err fault) P Q more holds = tt

pub on_ok_more : {T E : Type 0} (result : Result T E) (P : T → Type 0) (Q : Type 0) → ((value : T) → P value → Q) → IfOk result P → OnOk result Q
on_ok_more (Ok value) P Q more holds = more value holds
on_ok_more (Err fault) P Q more holds = tt

-- an answer is short, and leads to where the prover waits next
record Steps (claim : Claim) (next : ProverState) (frame : Frame) (answer : List Frame) (log : List (Side × ℕ)) : Type 0 where
  short : All IsShort answer
  at : IsProverLogAt next.job claim next.stage ((log ++ bytes_from Verifier (frame_spelling frame)) ++ said Prover answer)

steps_taken : (core next : ProverState) (claim : Claim) (stage : ProverStage) (frame : Frame) (answer : List Frame) (log : List (Side × ℕ)) → IsSoundJob core.job
    → next.job ≡ core.job → IsLogTaken core.job claim stage frame (log ++ bytes_from Verifier (frame_spelling frame))
    → ProverAnswers core.job stage frame answer next.stage → Steps claim next frame answer log
steps_taken core next claim stage frame answer log sound same taken answers = record {
  short = answer_short core.job claim stage frame answer next.stage _ sound taken answers;
  at = subst (λ j. IsProverLogAt j claim next.stage ((log ++ bytes_from Verifier (frame_spelling frame)) ++ said Prover answer)) (sym same)
      (answer_leads core.job claim stage frame answer next.stage _ sound taken answers);
}

step_claimed : {C : Type 0} (claims : ClaimantTells C) (s t : Proved C) (frame : Frame) (answer : List Frame) (log : List (Side × ℕ)) → IsSoundJob s.core.job
    → IsProverLogAt s.core.job (told_claim claims s.claimant) awaits_grant log → AnswersClaimed claims s frame answer t
    → Steps (told_claim claims t.claimant) t.core frame answer log
step_claimed claims s t frame answer log sound at by =
    let claim = told_claim claims t.claimant in
    steps_taken s.core t.core claim awaits_grant frame answer log sound by.job
    (grant_log_taken s.core.job claim frame by.given log at.1 by.is by.suits by.within (claimed_for claims by.given s.claimant t.claimant by.claimed)) by.answers

-- and what holds between the steps holds after it
pub record StepsOn {C : Type 0} (claims : ClaimantTells C) (job : ProverJob) (answer : List Frame) (new : Proved C) : Type 0 where
  pub short : All IsShort answer
  pub holds : IsProving claims job new

-- before the first step
pub proving_first : {C : Type 0} (claims : ClaimantTells C) (job : ProverJob) (claimant : C) → IsSoundJob job → claims.answer claimant ≡ None
    → claims.total claimant ≤ job.file.params.total → IsProving claims job (proved (record { job = job; stage = awaits_grant }) None false claimant)
proving_first claims job claimant sound once total =
    record { job_is = refl; sound = sound; total = λ _. total; log = greeted_log job; at = λ _. (once, refl) }

-- where a frame is expected, it is not accepted yet
pub not_accepted : (accepted : Bool) (core : ProverState) (P : Expect → Type 0) → IsSomeAnd (proving_expects accepted core) P
    → (accepted ≡ false) × IsSomeAnd (prover_expects core.job core.stage) P
not_accepted true core P expected = absurd expected
not_accepted false core P expected = (refl, expected)

-- at whatever place is expected
pub steps_there : {C : Type 0} (claims : ClaimantTells C) (job : ProverJob) (core next : ProverState) (granted : Option Span) (accepted : Bool) (claimant : C) (frame : Frame)
    (answer : List Frame) → IsProving claims job (proved core granted accepted claimant) → IsSomeAnd (proving_expects accepted core) (λ place. Allows place frame)
    → IsToAnswer core.stage → next.job ≡ core.job → ProverAnswers core.job core.stage frame answer next.stage
    → StepsOn claims job answer (proved next granted accepted claimant)
steps_there claims job core next granted accepted claimant frame answer proving expected behind same answers =
    let claim = told_claim claims claimant in
    let waits = not_accepted accepted core (λ place. Allows place frame) expected in
    let steps = steps_taken core next claim core.stage frame answer proving.log (subst IsSoundJob (sym proving.job_is) proving.sound) same
    (log_taken core.job claim core.stage frame proving.log behind (proving.at waits.0) waits.1) answers in
    record {
      short = steps.short;
      holds = record {
        job_is = same ∙ proving.job_is;
        sound = proving.sound;
        total = proving.total;
        log = _;
        at = λ _. steps.at;
      };
    }

-- at the grant
pub steps_granted : {C : Type 0} (claims : ClaimantTells C) (job : ProverJob) (core next : ProverState) (granted then : Option Span) (accepted : Bool) (claimant now : C) (frame : Frame)
    (answer : List Frame) → IsProving claims job (proved core granted accepted claimant) → IsSomeAnd (proving_expects accepted core) (λ place. Allows place frame)
    → AnswersClaimed claims (proved core granted false claimant) frame answer (proved next then false now)
    → StepsOn claims job answer (proved next then accepted now)
steps_granted claims job core next granted then accepted claimant now frame answer proving expected by =
    let accepts = (not_accepted accepted core (λ place. Allows place frame) expected).0 in
    let waited = subst (λ p. IsProverLogAt core.job (told_claim claims claimant) p proving.log) by.waits (proving.at accepts) in
    let steps = step_claimed claims (proved core granted false claimant) (proved next then false now) frame answer proving.log
    (subst IsSoundJob (sym proving.job_is) proving.sound) waited by in
    record {
      short = steps.short;
      holds = record {
        job_is = by.job ∙ proving.job_is;
        sound = proving.sound;
        total = λ none. absurd (none_is_some (sym none ∙ by.claimed.told));
        log = _;
        at = λ _. steps.at;
      };
    }

-- ---- where it waits after so many turns

-- a verdict was read that every check holds
pub record IsRead (job : ProverJob) (claim : Claim) (log : List (Side × ℕ)) : Type 0 where
  pub before : List (Side × ℕ)
  pub waited : IsProverLogAt job claim awaits_verdict before
  pub frame : Frame
  pub allowed : Allows expect.Verdict frame
  pub number : ℕ
  pub is : frame ≡ verdict 0 number
  pub logged : log ≡ before ++ bytes_from Verifier (frame_spelling frame)

abbrev pub IsLogOf : ProverJob → Claim → Bool → ProverStage → List (Side × ℕ) → Type 0
IsLogOf job claim true stage log = IsRead job claim log
IsLogOf job claim false stage log = IsProverLogAt job claim stage log

-- the claimant was not asked, or it claimed the units of a grant
abbrev pub IsClaimAt : {C : Type 0} → ClaimantTells C → C → Option Span → C → Type 0
IsClaimAt claims old granted now =
    ((now ≡ old) × (granted ≡ None))
    ⊎ ((given : Grant) × Claimed claims given (Ok (span_of given)) old now × (granted ≡ Some (span_of given)))

pub record IsAt {C : Type 0} (claims : ClaimantTells C) (old : C) (job : ProverJob) (now : Proved C) (before : List Turn) : Type 0 where
  pub job_is : now.core.job ≡ job
  pub log : IsLogOf now.core.job (told_claim claims now.claimant) now.accepted now.core.stage (whole_log Prover (greeting_frame job ∷ []) before)
  pub claim : IsClaimAt claims old now.granted now.claimant

-- the claimant is asked where a grant is awaited, for the first time
unclaimed : {C : Type 0} (claims : ClaimantTells C) (old now : C) (granted : Option Span) → claims.answer now ≡ None → IsClaimAt claims old granted now
    → (now ≡ old) × (granted ≡ None)
unclaimed claims old now granted none (inl same) = same
unclaimed claims old now granted none (inr claimed) = absurd (none_is_some (sym none ∙ claimed.1.told))

module _ {C : Type 0} (claims : ClaimantTells C) (old : C) (job : ProverJob) (sound : IsSoundJob job) where
  -- one turn on, where no verdict was read
  module _ (s t : Proved C) (before : List Turn) (turn : Turn) (at : IsAt claims old job s before) (accepted : s.accepted ≡ false) where
    abbrev log_to : List (Side × ℕ)
    log_to = whole_log Prover (greeting_frame job ∷ []) before

    abbrev log_on : List (Side × ℕ)
    log_on = whole_log Prover (greeting_frame job ∷ []) (before ++ turn ∷ [])

    more_on : (log_to ++ bytes_from Verifier (frame_spelling turn.frame)) ++ said Prover turn.answer ≡ log_on
    more_on = whole_more Prover (greeting_frame job ∷ []) before turn

    stood_at : (stage : ProverStage) → s.core.stage ≡ stage → IsProverLogAt s.core.job (told_claim claims s.claimant) stage log_to
    stood_at stage is = subst (λ (q : Bool × ProverStage). IsLogOf s.core.job (told_claim claims s.claimant) q.0 q.1 log_to) (λ i. (accepted i, is i)) at.log

    sound_there : IsSoundJob s.core.job
    sound_there = subst IsSoundJob (sym at.job_is) sound

    -- the answer leads on
    log_stepped : (claim : Claim) → t.accepted ≡ false → Steps claim t.core turn.frame turn.answer log_to
        → IsLogOf t.core.job claim t.accepted t.core.stage log_on
    log_stepped claim none steps = subst (λ (b : Bool). IsLogOf t.core.job claim b t.core.stage log_on) (sym none)
        (subst (IsProverLogAt t.core.job claim t.core.stage) more_on steps.at)

    claim_on : AnswersClaimed claims s turn.frame turn.answer t → IsAt claims old job t (before ++ turn ∷ [])
    claim_on by =
        let waited = stood_at awaits_grant by.waits in
        record {
          job_is = by.job ∙ at.job_is;
          log = log_stepped (told_claim claims t.claimant) by.accepted (step_claimed claims s t turn.frame turn.answer log_to sound_there waited by);
          claim = inr (
            by.given,
            subst (λ c. Claimed claims by.given (Ok (span_of by.given)) c t.claimant) (unclaimed claims old s.claimant s.granted waited.0 at.claim).0 by.claimed,
            by.granted,
          );
        }

    module _ (place : Expect) (expected : prover_expects s.core.job s.core.stage ≡ Some place) (allowed : Allows place turn.frame) where
      answer_on : ProverAnswersBehind s turn.frame turn.answer t → IsAt claims old job t (before ++ turn ∷ [])
      answer_on by =
          let claim = told_claim claims s.claimant in
          record {
            job_is = by.job ∙ at.job_is;
            log = subst (λ c. IsLogOf t.core.job (told_claim claims c) t.accepted t.core.stage log_on) (sym by.claimant)
                (log_stepped claim by.accepted (steps_taken s.core t.core claim s.core.stage turn.frame turn.answer log_to sound_there by.job
                (log_taken s.core.job claim s.core.stage turn.frame log_to by.behind (stood_at s.core.stage refl)
                (subst (λ o. IsSomeAnd o (λ p. Allows p turn.frame)) (sym expected) allowed)) by.answers));
            claim = subst (λ (q : Option Span × C). IsClaimAt claims old q.0 q.1) (λ i. (sym by.granted i, sym by.claimant i)) at.claim;
          }

      accept_on : ReadsAcceptance s turn.frame turn.answer t → IsAt claims old job t (before ++ turn ∷ [])
      accept_on by =
          let verdict_place : place ≡ expect.Verdict = same_stage expect.Verdict place (ap (prover_expects s.core.job) (sym by.waits) ∙ expected) in
          subst (λ (u : Proved C). IsAt claims old job u (before ++ turn ∷ [])) (sym by.becomes) (record {
            job_is = at.job_is;
            log = record {
              before = log_to;
              waited = stood_at awaits_verdict by.waits;
              frame = turn.frame;
              allowed = subst (λ p. Allows p turn.frame) verdict_place allowed;
              number = by.number;
              is = by.is;
              logged = sym more_on
                  ∙ ap (λ a. (log_to ++ bytes_from Verifier (frame_spelling turn.frame)) ++ said Prover a) by.none
                  ∙ append-nil (log_to ++ bytes_from Verifier (frame_spelling turn.frame));
            };
            claim = at.claim;
          })

  turn_on : (s : Proved C) (before : List Turn) (turn : Turn) (t : Proved C) → IsAt claims old job s before → IsTurn (proves claims) s turn t
      → IsAt claims old job t (before ++ turn ∷ [])
  turn_on s before turn t at is = by_turn s.accepted refl is.expected
    where
      by_turn : (b : Bool) → s.accepted ≡ b → proving_expects s.accepted s.core ≡ Some is.place → IsAt claims old job t (before ++ turn ∷ [])
      by_turn true accepted expected = absurd (none_is_some (ap (λ (q : Bool). proving_expects q s.core) (sym accepted) ∙ expected))
      by_turn false accepted expected = elim is.answered [
        | inl by ↦ claim_on s t before turn at accepted by
        | inr (inl by) ↦ answer_on s t before turn at accepted is.place expects is.allowed by
        | inr (inr by) ↦ accept_on s t before turn at accepted is.place expects is.allowed by
      ]
        where
          expects : prover_expects s.core.job s.core.stage ≡ Some is.place
          expects = ap (λ (q : Bool). proving_expects q s.core) (sym accepted) ∙ expected

  stands : claims.answer old ≡ None → (mid : Proved C) (turns : List Turn)
      → Goes (proves claims) (proved (record { job = job; stage = awaits_grant }) None false old) turns mid → IsAt claims old job mid turns
  stands once mid turns went =
      goes_keeps (proves claims) (IsAt claims old job) turn_on (proved (record { job = job; stage = awaits_grant }) None false old) mid turns
      (record {
        job_is = refl;
        log = (once, greeted);
        claim = inl (refl, refl);
      }) went
    where
      greeted : whole_log Prover (greeting_frame job ∷ []) [] ≡ greeted_log job
      greeted = append-nil (said Prover (greeting_frame job ∷ [])) ∙ ap (bytes_from Prover) (append-nil (frame_spelling (greeting_frame job)))

-- ---- what was claimed

-- the claimant at the end, and the units that were granted: as it was, or asked once
abbrev IsClaimTold : {C : Type 0} → ClaimantTells C → C → Option Span → C → Type 0
IsClaimTold claims old granted now =
    ((now ≡ old) × (granted ≡ None))
    ⊎ ((given : Grant) × (answer : Result Span ClaimFault) × Claimed claims given answer old now × (granted ≡ granted_of (Some answer)))

-- what a note tells of it
pub record ClaimEnds {C : Type 0} (claims : ClaimantTells C) (old : C) (granted : Option Span) (now : C) : Type 0 where
  pub told : granted ≡ granted_of (claims.answer now)
  pub moved : MatchOption (claims.answer now) (now ≡ old) (λ answer. IsSomeAnd (claims.asked now) (λ units. claims.moves old units.0 units.1 answer now))

claim_ends : {C : Type 0} (claims : ClaimantTells C) (old : C) (granted : Option Span) (now : C) → claims.answer old ≡ None → IsClaimTold claims old granted now
    → ClaimEnds claims old granted now
claim_ends claims old granted now once (inl none) =
    let unasked = ap claims.answer none.0 ∙ once in
    record {
      told = none.1 ∙ ap granted_of (sym unasked);
      moved = subst (λ a. MatchOption a (now ≡ old) (λ answer. IsSomeAnd (claims.asked now) (λ units. claims.moves old units.0 units.1 answer now))) (sym unasked) none.0;
    }
claim_ends claims old granted now once (inr some) = record {
  told = some.3 ∙ ap granted_of (sym some.2.told);
  moved = subst (λ a. MatchOption a (now ≡ old) (λ answer. IsSomeAnd (claims.asked now) (λ units. claims.moves old units.0 units.1 answer now))) (sym some.2.told)
      (subst (λ (u : Option (ℕ × ℕ)). IsSomeAnd u (λ units. claims.moves old units.0 units.1 some.1 now)) (sym some.2.asked) some.2.moves);
}

claim_at : {C : Type 0} (claims : ClaimantTells C) (old : C) (granted : Option Span) (now : C) → IsClaimAt claims old granted now → IsClaimTold claims old granted now
claim_at claims old granted now (inl none) = inl none
claim_at claims old granted now (inr some) = inr (some.0, Ok (span_of some.0), some.1, some.2)

-- ---- how it ended

module _ {C : Type 0} (claims : ClaimantTells C) (old : C) (once : claims.answer old ≡ None) (job : ProverJob) (sound : IsSoundJob job)
    (new : Proved C) (outcome : Outcome ProverOutcome) (first now : LinkSnapshot)
    (left : PartyLeaves (proves claims) (greeting_frame job ∷ []) Prover (proved (record { job = job; stage = awaits_grant }) None false old) new outcome first now) where
  abbrev mid : Proved C
  mid = left.mid

  abbrev passed : List (Side × ℕ)
  passed = whole_log Prover (greeting_frame job ∷ []) left.turns

  at : IsAt claims old job mid left.turns
  at = stands claims old job sound once mid left.turns left.went

  sound_mid : IsSoundJob mid.core.job
  sound_mid = subst IsSoundJob (sym at.job_is) sound

  -- how the session ended, and what was claimed
  record IsNoted (told : ProverOutcome) : Type 0 where
    ended : HasEnded mid.core.job (told_claim claims new.claimant) first told now
    claim : IsClaimTold claims old new.granted new.claimant

  -- nothing was claimed since
  still_noted : (told : ProverOutcome) → new.claimant ≡ mid.claimant → new.granted ≡ mid.granted
      → HasEnded mid.core.job (told_claim claims mid.claimant) first told now → IsNoted told
  still_noted told claimant granted ended = record {
    ended = subst (λ c. HasEnded mid.core.job (told_claim claims c) first told now) (sym claimant) ended;
    claim = subst (λ (q : C × Option Span). IsClaimTold claims old q.1 q.0) (λ i. (sym claimant i, sym granted i))
        (claim_at claims old mid.granted mid.claimant at.claim);
  }

  -- where the end is as it was
  same_noted : (told : ProverOutcome) → new ≡ mid → HasEnded mid.core.job (told_claim claims mid.claimant) first told now → IsNoted told
  same_noted told same ended = still_noted told (ap (λ (s : Proved C). s.claimant) same) (ap (λ (s : Proved C). s.granted) same) ended

  -- ---- where a frame was expected

  module _ (place : Expect) (expected : proving_expects mid.accepted mid.core ≡ Some place) where
    accepted : mid.accepted ≡ false
    accepted = by_accepted mid.accepted refl
      where
        by_accepted : (b : Bool) → mid.accepted ≡ b → mid.accepted ≡ false
        by_accepted false is = is
        by_accepted true is = absurd (none_is_some (ap (λ (b : Bool). proving_expects b mid.core) (sym is) ∙ expected))

    expects_so : proving_expects mid.accepted mid.core ≡ prover_expects mid.core.job mid.core.stage
    expects_so = ap (λ (b : Bool). proving_expects b mid.core) accepted

    waited_at : (stage : ProverStage) → mid.core.stage ≡ stage → IsProverLogAt mid.core.job (told_claim claims mid.claimant) stage passed
    waited_at stage is = subst (λ (q : Bool × ProverStage). IsLogOf mid.core.job (told_claim claims mid.claimant) q.0 q.1 passed)
        (λ i. (accepted i, is i)) at.log

    waited : IsProverLogAt mid.core.job (told_claim claims mid.claimant) mid.core.stage passed
    waited = waited_at mid.core.stage refl

    missed : (f : LineFault) → Misses (proves claims) Prover passed mid new f first now → IsNoted (prover_line_outcome f)
    missed f misses = same_noted (prover_line_outcome f) misses.same
        (stops_taking (proves claims) mid.core.job (told_claim claims mid.claimant) mid.core.stage passed mid new f first now sound_mid waited expects_so misses)

    module _ (frame : Frame) (allowed : Allows place frame) where
      abbrev heard : List (Side × ℕ)
      heard = passed ++ bytes_from Verifier (frame_spelling frame)

      allowed_at : (stage : ProverStage) (wanted : Expect) → mid.core.stage ≡ stage → prover_expects mid.core.job stage ≡ Some wanted → Allows wanted frame
      allowed_at stage wanted is wants =
          subst (λ p. Allows p frame) (same_Some place wanted (sym expected ∙ expects_so ∙ ap (prover_expects mid.core.job) is ∙ wants)) allowed

      comes_at : (stage : ProverStage) → mid.core.stage ≡ stage → GoesWell Prover heard first now
          → Comes mid.core.job (told_claim claims mid.claimant) first stage frame now
      comes_at stage is well = comes mid.core.job (told_claim claims mid.claimant) stage frame passed first now (waited_at stage is) well

      -- a grant whose units are claimed is to be answered
      claim_taken : (given : Grant) → mid.core.stage ≡ awaits_grant → frame ≡ grant given → Suits mid.core.job.file.params mid.core.job.statement.program given
          → given.start + given.count ≤ mid.core.job.file.params.total → Claimed claims given (Ok (span_of given)) mid.claimant new.claimant
          → now.log ≡ heard → IsLogTaken mid.core.job (told_claim claims new.claimant) awaits_grant frame now.log
      claim_taken given waits is suits within claimed logged =
          subst (IsLogTaken mid.core.job (told_claim claims new.claimant) awaits_grant frame) (sym logged)
          (grant_log_taken mid.core.job (told_claim claims new.claimant) frame given passed (waited_at awaits_grant waits).1 is suits within
          (claimed_for claims given mid.claimant new.claimant claimed))

      -- so are replies, or the challenge
      behind_taken : IsToAnswer mid.core.stage → now.log ≡ heard → IsLogTaken mid.core.job (told_claim claims mid.claimant) mid.core.stage frame now.log
      behind_taken behind logged =
          subst (IsLogTaken mid.core.job (told_claim claims mid.claimant) mid.core.stage frame) (sym logged)
          (log_taken mid.core.job (told_claim claims mid.claimant) mid.core.stage frame passed behind waited
          (subst (λ o. IsSomeAnd o (λ p. Allows p frame)) (sym expected ∙ expects_so) allowed))

      -- the claimant was asked
      asked_noted : (told : ProverOutcome) (given : Grant) (answer : Result Span ClaimFault) → mid.core.stage ≡ awaits_grant
          → Claimed claims given answer mid.claimant new.claimant → (mid.granted ≡ None → new.granted ≡ granted_of (Some answer))
          → HasEnded mid.core.job (told_claim claims new.claimant) first told now → IsNoted told
      asked_noted told given answer waits claimed granted ended =
          let none = unclaimed claims old mid.claimant mid.granted (waited_at awaits_grant waits).0 at.claim in
          record {
            ended = ended;
            claim = inr (given, answer, subst (λ c. Claimed claims given answer c new.claimant) none.0 claimed, granted none.1);
          }

      stopped : (told : ProverOutcome) → Stops claims mid frame told new → GoesWell Prover heard first now → IsNoted told
      stopped told (inl by) well = still_noted told by.claimant by.granted
          (ends_ungranted mid.core.job (told_claim claims mid.claimant) first frame told now sound_mid (comes_at awaits_grant by.waits well)
          (allowed_at awaits_grant expect.Grant by.waits refl) by.is)
      stopped told (inr (inl by)) well =
          asked_noted told by.given (Err by.fault) by.waits by.claimed (λ none. by.granted ∙ none)
          (subst (λ o. HasEnded mid.core.job (told_claim claims new.claimant) first o now) (sym by.outcome_is)
          (ends_unclaimed mid.core.job (told_claim claims new.claimant) first by.given by.fault now sound_mid by.suits
          (grant_taken mid.core.job (told_claim claims mid.claimant) first frame by.given now (comes_at awaits_grant by.waits well)
          (allowed_at awaits_grant expect.Grant by.waits refl) by.is)
          (record { asked = by.claimed.asked; answer = by.claimed.told })))
      stopped told (inr (inr (inl by))) well =
          asked_noted told by.given (Ok (span_of by.given)) by.waits by.claimed (λ _. by.granted)
          (subst (λ o. HasEnded mid.core.job (told_claim claims new.claimant) first o now) (sym by.outcome_is)
          (refuses_nothing mid.core.job (told_claim claims new.claimant) first awaits_grant frame by.fault now sound_mid
          (claim_taken by.given by.waits by.is by.suits by.within by.claimed well.logged) (comes_at awaits_grant by.waits well).well by.refuses))
      stopped told (inr (inr (inr (inl by)))) well = still_noted told by.claimant by.granted
          (subst (λ o. HasEnded mid.core.job (told_claim claims mid.claimant) first o now) (sym by.outcome_is)
          (refuses_nothing mid.core.job (told_claim claims mid.claimant) first mid.core.stage frame by.fault now sound_mid (behind_taken by.behind well.logged)
          (comes_at mid.core.stage refl well).well by.refuses))
      stopped told (inr (inr (inr (inr by)))) well = still_noted told by.claimant by.granted
          (ends_rejected mid.core.job (told_claim claims mid.claimant) first frame told now sound_mid (comes_at awaits_verdict by.waits well)
          (allowed_at awaits_verdict expect.Verdict by.waits refl) by.is)

      unanswered : (answer : List Frame) (f : LineFault) → 1 ≤ length answer
          → KeepsBack None Prover heard (flat_map frame_spelling answer) f first now
          → AnswersClaimed claims mid frame answer new ⊎ ProverAnswersBehind mid frame answer new ⊎ ReadsAcceptance mid frame answer new
          → IsNoted (prover_line_outcome f)
      unanswered answer f some kept (inl by) =
          asked_noted (prover_line_outcome f) by.given (Ok (span_of by.given)) by.waits by.claimed (λ _. by.granted)
          (stops_answering mid.core.job (told_claim claims new.claimant) first awaits_grant frame answer new.core.stage f now sound_mid
          (claim_taken by.given by.waits by.is by.suits by.within by.claimed (kept_log heard (flat_map frame_spelling answer) f first now kept)) by.answers
          (some_for f (length answer) some) (keeps_due heard (flat_map frame_spelling answer) f first now kept))
      unanswered answer f some kept (inr (inl by)) = still_noted (prover_line_outcome f) by.claimant by.granted
          (stops_answering mid.core.job (told_claim claims mid.claimant) first mid.core.stage frame answer new.core.stage f now sound_mid
          (behind_taken by.behind (kept_log heard (flat_map frame_spelling answer) f first now kept))
          by.answers (some_for f (length answer) some) (keeps_due heard (flat_map frame_spelling answer) f first now kept))
      unanswered answer f some kept (inr (inr by)) = absurd (omega (arith, some, ap length by.none))

  -- ---- a verdict was read that every check holds, and nothing more is expected

  over : proving_expects mid.accepted mid.core ≡ None → GoesWell Prover passed first now → HasEnded mid.core.job (told_claim claims mid.claimant) first Accepted now
  over none well = by_accepted mid.accepted refl
    where
      -- the prover has not ended otherwise
      some_expected : (stage : ProverStage) → IsProverLogAt mid.core.job (told_claim claims mid.claimant) stage passed → prover_expects mid.core.job stage ≡ None → ⊥
      some_expected has_ended waits over = waits
      some_expected other waits over = none_is_some (sym over)

      log_as : (b : Bool) → mid.accepted ≡ b → IsLogOf mid.core.job (told_claim claims mid.claimant) b mid.core.stage passed
      log_as b is = subst (λ (a : Bool). IsLogOf mid.core.job (told_claim claims mid.claimant) a mid.core.stage passed) is at.log

      by_accepted : (b : Bool) → mid.accepted ≡ b → HasEnded mid.core.job (told_claim claims mid.claimant) first Accepted now
      by_accepted false accepted = absurd (some_expected mid.core.stage (log_as false accepted)
          (ap (λ (b : Bool). proving_expects b mid.core) (sym accepted) ∙ none))
      by_accepted true accepted =
          let read : IsRead mid.core.job (told_claim claims mid.claimant) passed = log_as true accepted in
          ends_accepted mid.core.job (told_claim claims mid.claimant) first read.frame read.number now sound_mid
          (record {
            before = read.before;
            waited = read.waited;
            logged = well.logged ∙ read.logged;
            well = well_of passed first now well;
          })
          read.allowed read.is

  -- ---- all together

  noted : (o : Outcome ProverOutcome) → Halts (proves claims) (greeting_frame job ∷ []) Prover left.turns mid new o first now → IsNoted (outcome_told o)
  noted Done stop = same_noted Accepted stop.same
      (over (sym (ap (λ (s : Proved C). proving_expects s.accepted s.core) stop.same) ∙ stop.expected) stop.well)
  noted (Refused fault) stop =
      stopped stop.place stop.expected stop.frame stop.allowed fault stop.refused.1
      (subst (λ c. TriesCode Prover (passed ++ bytes_from Verifier (frame_spelling stop.frame)) c first now) stop.refused.0 stop.tried)
  noted (Cut f) (inl misses) = missed misses.place misses.expected f misses
  noted (Cut f) (inr (inl stop)) =
      unanswered stop.is.place stop.is.expected stop.turn.frame stop.is.allowed stop.turn.answer f stop.some stop.kept stop.is.answered
  noted (Cut f) (inr (inr stop)) =
      let start : mid ≡ proved (record { job = job; stage = awaits_grant }) None false old =
      subst (λ (l : List Turn). Goes (proves claims) (proved (record { job = job; stage = awaits_grant }) None false old) l mid) stop.none left.went in
      same_noted (prover_line_outcome f) stop.same
      (subst (λ (q : ProverJob × C). HasEnded q.0 (told_claim claims q.1) first (prover_line_outcome f) now) (λ i. (sym at.job_is i, sym (ap (λ (s : Proved C). s.claimant) start) i))
      (stops_greeting job (told_claim claims old) first f now sound once
      (kept_log [] (flat_map frame_spelling (greeting_frame job ∷ [])) f first now stop.kept)
      (subst (λ b. KeepsDue b f first now) (append-nil (frame_spelling (greeting_frame job)))
      (keeps_due [] (flat_map frame_spelling (greeting_frame job ∷ [])) f first now stop.kept))))

  pub session_ended : HasEnded job (told_claim claims new.claimant) first (outcome_told outcome) now
  session_ended = subst (λ (j : ProverJob). HasEnded j (told_claim claims new.claimant) first (outcome_told outcome) now) at.job_is (noted outcome left.halts).ended

  pub claim_ended : ClaimEnds claims old new.granted new.claimant
  claim_ended = claim_ends claims old new.granted new.claimant once (noted outcome left.halts).claim

-- With an honest verifier no other outcome is left.

-- ---- what an honest verifier says

-- what came is a beginning of all that a verifier says in a session
record IsSaid (job : ProverJob) (received : List ℕ) : Type 0 where
  t : Transcript
  is : IsTranscript job.file.params job.statement.program t
  more : List ℕ
  begun : answered (session_turns t) ≡ received ++ more

-- a transcript of the verifier's is one of the job's
of_job : (job : ProverJob) (inputs : List ℕ) (verifier : VerifierTask) (t : Transcript) → AreCounterparts (task_of job inputs) verifier
    → IsTranscript verifier.file.params verifier.statement.program t → IsTranscript job.file.params job.statement.program t
of_job job inputs verifier t counterparts is = subst (λ (q : Params × Program). IsTranscript q.0 q.1 t)
    (λ i. (sym counterparts.dealt.params i, sym (ap (λ (s : Statement). s.program) counterparts.statement) i)) is

is_said : (job : ProverJob) (inputs : List ℕ) (verifier : VerifierTask) (result : ProverOutcome) (log : List (Side × ℕ))
    → HasHonestVerifier job inputs verifier result log → IsSaid job (sent_by Verifier log)
is_said job inputs verifier result log peer =
    let ts : List (List ℕ × List ℕ) = session_turns peer.honest.t in
    let later = fewer_answered peer.honest.turns (length ts) ts peer.honest.within in
    record {
      t = peer.honest.t;
      is = of_job job inputs verifier peer.honest.t peer.counterparts peer.honest.served.in_order.transcript;
      more = peer.honest.begun.0 ++ later.0;
      begun = ap (λ turns. answered turns) (sym (take_all (length ts) ts (omega arith))) ∙ later.1
          ∙ ap (λ l. l ++ later.0) peer.honest.begun.1 ∙ append_assoc (sent_by Verifier log) peer.honest.begun.0 later.0;
    }

-- or all of it
all_said : (job : ProverJob) (inputs : List ℕ) (verifier : VerifierTask) (log : List (Side × ℕ))
    → AreCounterparts (task_of job inputs) verifier → (spoken : HasSpoken verifier log)
    → (said : IsSaid job (sent_by Verifier log)) × (said.more ≡ [])
all_said job inputs verifier log counterparts spoken = (
  record {
    t = spoken.t;
    is = of_job job inputs verifier spoken.t counterparts spoken.served.in_order.transcript;
    more = [];
    begun = sym spoken.spoken ∙ sym (append-nil (sent_by Verifier log));
  },
  refl,
)

-- the turns that have come are not all
few_turns : (job : ProverJob) (stage : ProverStage) → suc (turns_at job stage) ≤ rounds_of job.file.params.kind + 3
few_turns job awaits_grant = omega arith
few_turns job stage = omega arith

-- where the prover waits, what the verifier says goes on with a frame of the place
said_next : (job : ProverJob) (claim : Claim) (stage : ProverStage) (log : List (Side × ℕ)) (inputs : List ℕ) → IsSoundJob job
    → (said : IsSaid job (sent_by Verifier log)) → (comes : ComesAt (IsProverLogAt job claim) (prover_expects job) Verifier stage log)
    → IsNextFrame comes.place (comes.rest ++ said.more)
said_next job claim stage log inputs sound said comes =
    let ts : List (List ℕ × List ℕ) = session_turns said.t in
    let later = fewer_answered (suc (turns_at job stage)) (length ts) ts
    (omega (arith, few_turns job stage, count_is job.file.params job.statement.program said.t said.is)) in
    next_frame job claim stage comes.place comes.before (comes.rest ++ said.more) inputs sound comes.waited comes.expected (record {
      u = said.t;
      is = said.is;
      more = later.0;
      begun = sym (append_assoc (sent_by Verifier comes.before) comes.rest said.more)
          ∙ ap (λ l. l ++ said.more) (sym (came_more Prover comes.before comes.rest) ∙ ap (sent_by Verifier) (sym comes.logged)) ∙ sym said.begun
          ∙ ap (λ turns. answered turns) (sym (take_all (length ts) ts (omega arith))) ∙ later.1;
    })

-- ---- outcomes that are left out

-- no byte is bad
no_bad : (job : ProverJob) (claim : Claim) (log : List (Side × ℕ)) (n : ℕ) {P : Expect → List ℕ → Type 0} → IsSoundJob job → IsSaid job (sent_by Verifier log)
    → (stops : ProverStopsBehind job claim log P) → IsFirstBad stops.place stops.rest n → ⊥
no_bad job claim log n sound said stops bad =
    let next = said_next job claim stops.stage log [] sound said stops.comes in
    none_bad stops.place next.frame stops.rest said.more next.tail n next.allowed (omega (arith, within_longest stops.place stops.rest stops.few, next.long)) next.begun bad

-- and the verifier has not said all where a frame is wanted
no_end : (job : ProverJob) (claim : Claim) (log : List (Side × ℕ)) {P : Expect → List ℕ → Type 0} → IsSoundJob job → (said : IsSaid job (sent_by Verifier log))
    → said.more ≡ [] → (stops : ProverStopsBehind job claim log P) → length stops.rest < frame_length stops.place stops.rest → ⊥
no_end job claim log sound said all stops short =
    let next = said_next job claim stops.stage log [] sound said stops.comes in
    absurd (omega (
      arith,
      ap length next.begun,
      length-append stops.rest said.more,
      ap length all,
      length-append (frame_spelling next.frame) next.tail,
      next.long,
      frame_most stops.place stops.rest,
      short,
    ))

-- ---- all together

pub completes : (job : ProverJob) (claim : Claim) (log : List (Side × ℕ)) (first now : LinkSnapshot) (result : ProverOutcome) → HonestVerdict
    → IsSoundJob job → IsOutcome job claim log first now result → ProverCompletes job claim log first now result
completes job claim log first now outcome.Accepted law sound caused inputs verifier peer free calm = inl refl
completes job claim log first now (outcome.Rejected code number) law sound (bad, reads) inputs verifier peer free calm =
    let session = law (task_of job inputs) verifier reads.t log peer.counterparts peer.claims reads.in_order.transcript
    (reads.honest inputs peer.wires peer.witness) reads.in_order.bytes peer.honest in
    absurd (omega (arith, session.served.judged.said.code, reads.code_is, bad))
completes job claim log first now (outcome.PeerEnded at) law sound (stops, count, ended, nothing) inputs verifier peer free calm =
    let all = all_said job inputs verifier log peer.counterparts (peer.ended at refl) in
    absurd (no_end job claim log sound all.0 all.1 stops stops.cause.1)
completes job claim log first now (outcome.BadFrame at) law sound (n, stops) inputs verifier peer free calm =
    absurd (no_bad job claim log n sound (is_said job inputs verifier (outcome.BadFrame at) log peer) stops stops.cause.0)
completes job claim log first now outcome.BadGrant law sound (given, fits, unsuited, logged) inputs verifier peer free calm =
    let said = is_said job inputs verifier outcome.BadGrant log peer in
    absurd (unsuited (suits_is job.file.params job.statement.program given
    (same_bytes_grant job.file.params job.statement.program given said.t.commitment.setup.grant said.more _ sound.file.params.total fits said.is.commitment.setup.grant
    (ap (λ l. l ++ said.more) (sym (ap (sent_by Verifier) logged ∙ granted_heard job given)) ∙ sym said.begun))))
completes job claim log first now (outcome.PeerRefused code) law sound (fits, logged) inputs verifier peer free calm =
    let said = is_said job inputs verifier (outcome.PeerRefused code) log peer in
    let kinds : 10 ≡ 2 = ap (λ l. slice_index_or l 0 0)
    (ap (λ l. l ++ said.more) (sym (ap (sent_by Verifier) logged ∙ came_more Prover (greeted_log job) (refuse_frame code)
    ∙ ap (λ l. l ++ refuse_frame code) (greeted_heard job))) ∙ sym said.begun) in
    absurd (omega (arith, kinds))
completes job claim log first now outcome.Link law sound (rose, where_failed) inputs verifier peer free calm = absurd (calm rose)
completes job claim log first now outcome.NoMemory law sound caused inputs verifier peer free calm = inr refl
completes job claim log first now other law sound refused inputs verifier peer free calm = absurd (free _ refused.2.answer)
