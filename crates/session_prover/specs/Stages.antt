-- How far a session is at the prover: which frames are logged where it waits. And what its end of a session does: it has the units of
-- a grant claimed that suits, and answers as the core does, up to the verdict.
use Rattle.std.specs.Prelude.{◌≡◌, ℕ, ◌+◌, ◌<◌, List, [], ◌∷◌, ◌++◌, flat_map, length, drop, All, Option, Some, None, Result, Ok, Err, ◌⊎◌, ◌-◌, ◌≤◌, true, Bool, false}
use Rattle.zk_model.specs.Field.{IsElement}
use Rattle.zk_model.specs.Mac.{Pair, macs_of}
use Rattle.zk_model.specs.Check.{WirePairs, all_sums, opened_pairs}
use Rattle.zk_model.specs.Files.{rounds_of, IsProverFile}
use Rattle.zk_model.specs.Transcript.{Grant, TreeReply, Round, Setup, IsGrant, IsRound, wanted_hello, hello_frame, grant_frame, ask_frame, reply_frame, corrections_frame, challenge_frame, sums_frame, openings_frame, bytes_from, turn_bytes}
use Rattle.zk_model.specs.Correlations.{IsProverView}
use Rattle.zk_model.specs.Frames.{Frame, grant, replies, challenge, AreReplies, verdict, refuse, hello}
use Rattle.zk_model.specs.HonestProver.{round_asks}
use Rattle.zk_model.specs.View.{span_of}
use Rattle.zk_model.specs.declared.Kind.TheVariants.{Extended}
use Rattle.zk_model.specs.declared.Side.{Side}
use Rattle.zk_model.specs.declared.Side.TheVariants.{Prover, Verifier}
use Rattle.zk_model.specs.declared.Span.{Span}
use Rattle.claim_store.specs.declared.ClaimFault.{ClaimFault}
use Rattle.session_driver.specs.Runs.{Moves}
use Rattle.session_core.specs.Ends.{IsFixed}
use Rattle.session_core.specs.Jobs.{ProverJob, IsProverJob, Suits}
use Rattle.session_core.specs.Rounds.{round_turns}
use Rattle.session_core.specs.Cores.{ProverStage, awaits_grant, awaits_replies, awaits_challenge, awaits_verdict, has_ended, ProverState, ProverAnswers, ProverRefuses, prover_expects}
use Rattle.zk_model.specs.Statement.{IsStatement}
use Rattle.session_prover.specs.declared.note.ProverOutcome.{ProverOutcome}
use Rattle.session_prover.specs.declared.note.ProverOutcome.TheVariants.{BadGrant, PeerRefused, Rejected, Accepted}
use Rattle.zk_model.specs.declared.limits.TheConstants.{MAX_GATES, MAX_WIRES}
use Rattle.zk_model.specs.declared.Expect.{Expect}
use Rattle.session_core.specs.declared.fault.ProverFault.{ProverFault}
use Rattle.session_driver.specs.declared.drive.Outcome.{Outcome}
use Rattle.session_driver.specs.declared.drive.Outcome.TheVariants.{Done, Refused, Cut}
use Rattle.session_prover.specs.Outcomes.{claim_outcome, prover_line_outcome, prover_fault_outcome}
use Rattle.session_driver.specs.Leaving.{GoesWell}
use Rattle.frame_link.specs.Lines.{LinkSnapshot}

-- ---- what was claimed

-- what a claimant was asked for, a first unit and a count, and what it answered
pub record Claim : Type 0 where
  pub asked : Option (ℕ × ℕ)
  pub answer : Option (Result Span ClaimFault)

-- it was asked for the units of this grant, and claimed them
pub record ClaimedFor (claim : Claim) (given : Grant) : Type 0 where
  pub asked : claim.asked ≡ Some (given.start, given.count)
  pub answer : claim.answer ≡ Some (Ok (span_of given))

-- it was asked for them, and refused
pub record RefusedFor (claim : Claim) (given : Grant) (fault : ClaimFault) : Type 0 where
  pub asked : claim.asked ≡ Some (given.start, given.count)
  pub answer : claim.answer ≡ Some (Err fault)

-- ---- the frames that are logged

-- the greeting of a job
abbrev pub greeting : ProverJob → List ℕ
greeting job = hello_frame (wanted_hello job.file.id job.statement)

-- the greeting is sent
abbrev pub greeted_log : ProverJob → List (Side × ℕ)
greeted_log job = bytes_from Prover (greeting job)

-- a grant is taken
abbrev pub granted_log : ProverJob → Grant → List (Side × ℕ)
granted_log job given = greeted_log job ++ bytes_from Verifier (grant_frame given)

-- what is asked for all units of a grant, in kind extended
abbrev pub all_asks : ProverJob → Grant → List ℕ
all_asks job given = flat_map ask_frame (round_asks job.file given)

-- and answered by the asks
abbrev pub asked_log : ProverJob → Grant → List (Side × ℕ)
asked_log job given = granted_log job given ++ bytes_from Prover (all_asks job given)

-- replies to the asks of some units are taken
abbrev pub replied_log : ProverJob → Grant → List (List TreeReply) → List (Side × ℕ)
replied_log job given came = asked_log job given ++ bytes_from Verifier (flat_map reply_frame came)

-- all rounds after a grant are whole: none in kind direct
abbrev pub rounds_log : ProverJob → Grant → List Round → List (Side × ℕ)
rounds_log job given rounds = granted_log job given ++ turn_bytes (round_turns rounds)

-- and answered by corrections
abbrev pub fixed_log : ProverJob → Grant → List Round → List ℕ → List (Side × ℕ)
fixed_log job given rounds d = rounds_log job given rounds ++ bytes_from Prover (corrections_frame d)

-- a challenge is taken
abbrev pub challenged_log : ProverJob → Grant → List Round → List ℕ → ℕ → List (Side × ℕ)
challenged_log job given rounds d element = fixed_log job given rounds d ++ bytes_from Verifier (challenge_frame element)

-- the sums of all sections over the pairs of the correlations and of the wires
abbrev pub sums_for : ProverJob → Grant → List Pair → WirePairs → ℕ → List (ℕ × ℕ)
sums_for job given pairs wires element =
    all_sums job.statement.program given.section_length element wires (drop job.statement.program.givens pairs)

-- the MACs of the opened wires
abbrev pub openings_for : ProverJob → WirePairs → List ℕ
openings_for job wires = macs_of (opened_pairs job.statement.program wires)

-- and the challenge is answered by sums and openings
abbrev pub opened_log : ProverJob → Grant → List Round → List Pair → List ℕ → WirePairs → ℕ → List (Side × ℕ)
opened_log job given rounds pairs d wires element =
    challenged_log job given rounds d element
    ++ bytes_from Prover (sums_frame (sums_for job given pairs wires element))
    ++ bytes_from Prover (openings_frame (openings_for job wires))

-- the setup of a session with this grant and these rounds
abbrev pub setup_for : ProverJob → Grant → List Round → Setup
setup_for job given rounds = record { hello = wanted_hello job.file.id job.statement; grant = given; rounds = rounds }

-- as many rounds as the kind has, in range, with the asks of an honest prover
pub record AreAskedRounds (job : ProverJob) (given : Grant) (rounds : List Round) : Type 0 where
  pub count : length rounds ≡ rounds_of job.file.params.kind
  pub ranged : All (IsRound job.file.params given) rounds
  pub asks : All (λ round. round.asks ≡ round_asks job.file given) rounds

-- A grant that fits, and its rounds; the pairs that the prover sees of them, and the corrections and the pairs of all wires
-- that these fix.
pub record Fixes
    (job : ProverJob)
    (given : Grant)
    (rounds : List Round)
    (pairs : List Pair)
    (d : List ℕ)
    (wires : WirePairs) : Type 0 where
  pub granted : IsGrant job.file.params job.statement.program given
  pub asked : AreAskedRounds job given rounds
  pub seen : IsProverView job.file (setup_for job given rounds) pairs
  pub fixed : IsFixed job.statement job.given pairs d wires

-- a grant that fits, in kind extended, and replies for the first units of it, but not for all
pub record AreSomeReplies (job : ProverJob) (given : Grant) (came : List (List TreeReply)) : Type 0 where
  pub granted : IsGrant job.file.params job.statement.program given
  pub extended : job.file.params.kind ≡ Extended
  pub more : length came < given.count
  pub each : All (AreReplies job.file.params.height job.file.params.trees) came

-- what is logged where a prover waits for the verdict
pub record IsOpenedLog (job : ProverJob) (claim : Claim) (log : List (Side × ℕ)) : Type 0 where
  pub given : Grant
  pub claimed : ClaimedFor claim given
  pub rounds : List Round
  pub pairs : List Pair
  pub d : List ℕ
  pub wires : WirePairs
  pub fixes : Fixes job given rounds pairs d wires
  pub element : ℕ
  pub is : IsElement element
  pub logged : log ≡ opened_log job given rounds pairs d wires element

-- What is logged where a prover waits: its greeting, and the frames that came, each with its answer. The claimant is asked
-- once a grant has come, which is answered only where its units are claimed.
abbrev pub IsProverLogAt : ProverJob → Claim → ProverStage → List (Side × ℕ) → Type 0
IsProverLogAt job claim awaits_grant log = (claim.answer ≡ None) × (log ≡ greeted_log job)
IsProverLogAt job claim (awaits_replies given came) log =
    ClaimedFor claim given × AreSomeReplies job given came × (log ≡ replied_log job given came)
IsProverLogAt job claim (awaits_challenge given pairs wires) log = (rounds : List Round) × (d : List ℕ)
    × ClaimedFor claim given × Fixes job given rounds pairs d wires × (log ≡ fixed_log job given rounds d)
IsProverLogAt job claim awaits_verdict log = IsOpenedLog job claim log
IsProverLogAt job claim has_ended log = ⊥

-- What is logged where a frame has come that is to be answered: a grant whose units are claimed, replies, or a challenge.
abbrev pub IsLogTaken : ProverJob → Claim → ProverStage → Frame → List (Side × ℕ) → Type 0
IsLogTaken job claim awaits_grant frame log = (given : Grant)
    × (frame ≡ grant given) × ClaimedFor claim given × IsGrant job.file.params job.statement.program given
    × (log ≡ granted_log job given)
IsLogTaken job claim (awaits_replies given came) frame log = (trees : List TreeReply)
    × (frame ≡ replies trees) × AreReplies job.file.params.height job.file.params.trees trees
    × ClaimedFor claim given × AreSomeReplies job given came
    × (log ≡ replied_log job given (came ++ trees ∷ []))
IsLogTaken job claim (awaits_challenge given pairs wires) frame log = (element : ℕ) × (rounds : List Round) × (d : List ℕ)
    × (frame ≡ challenge element) × IsElement element × ClaimedFor claim given × Fixes job given rounds pairs d wires
    × (log ≡ challenged_log job given rounds d element)
IsLogTaken job claim awaits_verdict frame log = ⊥
IsLogTaken job claim has_ended frame log = ⊥

-- ---- the line

-- all that passed is logged, each answer was sent by one send, none of which was refused, and nothing failed
abbrev pub AnswersEach : LinkSnapshot → LinkSnapshot → Type 0
AnswersEach first now = GoesWell Prover now.log first now

-- ---- what a prover's calls over a line require and make of it

-- a job over a file and a statement as they are read, whose program has few given values, products and opened wires
pub record IsSoundJob (job : ProverJob) : Type 0 where
  pub is : IsProverJob job
  pub file : IsProverFile job.file
  pub stated : IsStatement job.statement
  pub givens : job.statement.program.givens ≤ MAX_WIRES
  pub products : length job.statement.program.products ≤ MAX_WIRES
  pub opened : length job.statement.program.opened ≤ MAX_WIRES + MAX_GATES

-- a grant is answered
abbrev pub IsBehindGrant : ProverStage → Type 0
IsBehindGrant awaits_grant = ⊥
IsBehindGrant has_ended = ⊥
IsBehindGrant stage = Unit {0}

-- a frame is expected that is to be answered: replies or a challenge
abbrev pub IsToAnswer : ProverStage → Type 0
IsToAnswer (awaits_replies given came) = Unit {0}
IsToAnswer (awaits_challenge given pairs wires) = Unit {0}
IsToAnswer stage = ⊥

-- how many frames are answered yet: after a grant at most the replies of 4,096 units, and the challenge
abbrev pub answers_left : ProverStage → ℕ
answers_left awaits_grant = 4098
answers_left (awaits_replies given came) = given.count - length came + 1
answers_left (awaits_challenge given pairs wires) = 1
answers_left stage = 0

-- in a grant's place, a grant that does not suit, or a refusal
abbrev pub IsNoGrant : ProverJob → Frame → ProverOutcome → Type 0
IsNoGrant job frame BadGrant = (given : Grant) × (frame ≡ grant given) × ¬ Suits job.file.params job.statement.program given
IsNoGrant job frame (PeerRefused code) = frame ≡ refuse code
IsNoGrant job frame outcome = ⊥

-- a verdict with another code than 0
abbrev pub IsRejection : Frame → ProverOutcome → Type 0
IsRejection frame (Rejected code number) = (1 ≤ code) × (frame ≡ verdict code number)
IsRejection frame outcome = ⊥

-- ---- who claims units

-- what one who claims units tells: what it was asked for and answered, of how many it claims, and what an answer makes of it
pub record ClaimantTells (C : Type 0) : Type 1 where
  pub asked : C → Option (ℕ × ℕ)
  pub answer : C → Option (Result Span ClaimFault)
  pub total : C → ℕ
  pub moves : C → ℕ → ℕ → Result Span ClaimFault → C → Type 0

-- by these
abbrev pub claimant_tells : {C : Type 0} → (C → Option (ℕ × ℕ)) → (C → Option (Result Span ClaimFault)) → (C → ℕ)
    → (C → ℕ → ℕ → Result Span ClaimFault → C → Type 0) → ClaimantTells C
claimant_tells asked answer total moves = record { asked = asked; answer = answer; total = total; moves = moves }

-- what it was asked for, and answered
abbrev pub told_claim : {C : Type 0} → ClaimantTells C → C → Claim
told_claim claims claimant = record { asked = claims.asked claimant; answer = claims.answer claimant }

-- it was asked for the units of this grant, and answered so
pub record Claimed {C : Type 0} (claims : ClaimantTells C) (given : Grant) (answer : Result Span ClaimFault) (old new : C) : Type 0 where
  pub asked : claims.asked new ≡ Some (given.start, given.count)
  pub told : claims.answer new ≡ Some answer
  pub moves : claims.moves old given.start given.count answer new

-- ---- the prover's end

-- a prover's core, the units that were granted, whether a verdict was read that every check holds, and the one who claims units
pub record Proved (C : Type 0) : Type 0 where
  pub core : ProverState
  pub granted : Option Span
  pub accepted : Bool
  pub claimant : C

-- by these
abbrev pub proved : {C : Type 0} → ProverState → Option Span → Bool → C → Proved C
proved core granted accepted claimant = record { core = core; granted = granted; accepted = accepted; claimant = claimant }

-- the greeting of a job, as a frame
abbrev pub greeting_frame : ProverJob → Frame
greeting_frame job = hello (wanted_hello job.file.id job.statement)

-- the frame that it expects: none once it is accepted
abbrev pub proving_expects : Bool → ProverState → Option Expect
proving_expects true core = None
proving_expects false core = prover_expects core.job core.stage

-- how many frames it takes yet, at most
abbrev pub prover_frames_left : Bool → ProverStage → ℕ
prover_frames_left true stage = 0
prover_frames_left false stage = answers_left stage + 1

-- A grant came that suits, and lies in the file; its units were claimed, and it is answered.
pub record AnswersClaimed {C : Type 0} (claims : ClaimantTells C) (old : Proved C) (frame : Frame) (answer : List Frame) (new : Proved C) : Type 0 where
  pub waits : old.core.stage ≡ awaits_grant
  pub given : Grant
  pub is : frame ≡ grant given
  pub suits : Suits old.core.job.file.params old.core.job.statement.program given
  pub within : given.start + given.count ≤ old.core.job.file.params.total
  pub claimed : Claimed claims given (Ok (span_of given)) old.claimant new.claimant
  pub answers : ProverAnswers old.core.job awaits_grant frame answer new.core.stage
  pub job : new.core.job ≡ old.core.job
  pub granted : new.granted ≡ Some (span_of given)
  pub accepted : new.accepted ≡ false

-- replies came, or the challenge
pub record ProverAnswersBehind {C : Type 0} (old : Proved C) (frame : Frame) (answer : List Frame) (new : Proved C) : Type 0 where
  pub behind : IsToAnswer old.core.stage
  pub answers : ProverAnswers old.core.job old.core.stage frame answer new.core.stage
  pub job : new.core.job ≡ old.core.job
  pub granted : new.granted ≡ old.granted
  pub accepted : new.accepted ≡ false
  pub claimant : new.claimant ≡ old.claimant

-- a verdict came that every check holds
pub record ReadsAcceptance {C : Type 0} (old : Proved C) (frame : Frame) (answer : List Frame) (new : Proved C) : Type 0 where
  pub waits : old.core.stage ≡ awaits_verdict
  pub number : ℕ
  pub is : frame ≡ verdict 0 number
  pub none : answer ≡ []
  pub becomes : new ≡ record old { accepted = true }

-- a grant that does not suit came, or a refusal
pub record TurnsAway {C : Type 0} (old : Proved C) (frame : Frame) (outcome : ProverOutcome) (new : Proved C) : Type 0 where
  pub waits : old.core.stage ≡ awaits_grant
  pub is : IsNoGrant old.core.job frame outcome
  pub granted : new.granted ≡ old.granted
  pub claimant : new.claimant ≡ old.claimant

-- a grant came that suits, and its units were not claimed
pub record RefusesClaim {C : Type 0} (claims : ClaimantTells C) (old : Proved C) (frame : Frame) (outcome : ProverOutcome) (new : Proved C) : Type 0 where
  pub waits : old.core.stage ≡ awaits_grant
  pub given : Grant
  pub is : frame ≡ grant given
  pub suits : Suits old.core.job.file.params old.core.job.statement.program given
  pub fault : ClaimFault
  pub claimed : Claimed claims given (Err fault) old.claimant new.claimant
  pub outcome_is : outcome ≡ claim_outcome fault
  pub granted : new.granted ≡ old.granted

-- its units were claimed, but the core refuses to answer it
pub record LacksAnswer {C : Type 0} (claims : ClaimantTells C) (old : Proved C) (frame : Frame) (outcome : ProverOutcome) (new : Proved C) : Type 0 where
  pub waits : old.core.stage ≡ awaits_grant
  pub given : Grant
  pub is : frame ≡ grant given
  pub suits : Suits old.core.job.file.params old.core.job.statement.program given
  pub within : given.start + given.count ≤ old.core.job.file.params.total
  pub claimed : Claimed claims given (Ok (span_of given)) old.claimant new.claimant
  pub fault : ProverFault
  pub refuses : ProverRefuses old.core.job awaits_grant frame fault
  pub outcome_is : outcome ≡ prover_fault_outcome fault
  pub granted : new.granted ≡ Some (span_of given)

-- the core refuses replies, or the challenge
pub record ProverRefusesBehind {C : Type 0} (old : Proved C) (frame : Frame) (outcome : ProverOutcome) (new : Proved C) : Type 0 where
  pub behind : IsToAnswer old.core.stage
  pub fault : ProverFault
  pub refuses : ProverRefuses old.core.job old.core.stage frame fault
  pub outcome_is : outcome ≡ prover_fault_outcome fault
  pub granted : new.granted ≡ old.granted
  pub claimant : new.claimant ≡ old.claimant

-- a verdict came that a check does not hold
pub record ReadsRejection {C : Type 0} (old : Proved C) (frame : Frame) (outcome : ProverOutcome) (new : Proved C) : Type 0 where
  pub waits : old.core.stage ≡ awaits_verdict
  pub is : IsRejection frame outcome
  pub granted : new.granted ≡ old.granted
  pub claimant : new.claimant ≡ old.claimant

-- why it takes a frame for the last
abbrev pub Stops : {C : Type 0} → ClaimantTells C → Proved C → Frame → ProverOutcome → Proved C → Type 0
Stops claims old frame outcome new =
    TurnsAway old frame outcome new ⊎ RefusesClaim claims old frame outcome new ⊎ LacksAnswer claims old frame outcome new
    ⊎ ProverRefusesBehind old frame outcome new ⊎ ReadsRejection old frame outcome new

-- what a prover's end does; it sends no refusals
abbrev pub proves : {C : Type 0} → ClaimantTells C → Moves (Proved C) ProverOutcome
proves claims = record {
  expects = λ s. proving_expects s.accepted s.core;
  lack_code = λ s. None;
  answers = λ s frame answer t. AnswersClaimed claims s frame answer t ⊎ ProverAnswersBehind s frame answer t ⊎ ReadsAcceptance s frame answer t;
  refuses = λ s frame outcome code t. (code ≡ None) × Stops claims s frame outcome t;
}

-- what holds of it between its steps: it is about the job, and there is a log that leads to where it waits
pub record IsProving {C : Type 0} (claims : ClaimantTells C) (job : ProverJob) (now : Proved C) : Type 0 where
  pub job_is : now.core.job ≡ job
  pub sound : IsSoundJob job
  pub total : claims.answer now.claimant ≡ None → claims.total now.claimant ≤ job.file.params.total
  pub log : List (Side × ℕ)
  pub at : now.accepted ≡ false → IsProverLogAt now.core.job (told_claim claims now.claimant) now.core.stage log

-- the outcome by which a session is noted that stopped so
abbrev pub outcome_told : Outcome ProverOutcome → ProverOutcome
outcome_told Done = Accepted
outcome_told (Refused fault) = fault
outcome_told (Cut fault) = prover_line_outcome fault
