-- What a verifier's end of a session does: it meets the hello and has units leased, of which it sends the grant, and answers what
-- comes after that as the core does.
use Rattle.std.specs.Prelude.{◌≡◌, ◌⊎◌, ℕ, ◌+◌, ◌-◌, ◌<◌, ◌≤◌, List, [], ◌∷◌, length, Option, Some, None, IfSome, Result, Ok, Err}
use Rattle.zk_model.specs.Audit.{hello_place}
use Rattle.zk_model.specs.Frames.{Frame, Allows, grant}
use Rattle.zk_model.specs.Frames.{hello as greeting}
use Rattle.zk_model.specs.Transcript.{Hello, IsHello}
use Rattle.zk_model.specs.declared.limits.TheConstants.{MAX_UNITS}
use Rattle.zk_model.specs.declared.Span.{Span}
use Rattle.lease_store.specs.declared.grantor.GrantFault.{GrantFault}
use Rattle.session_core.specs.Jobs.{VerifierJob, VerifierJobs, TakesHello, all_jobs, noted_job, units_of_job, granted_from}
use Rattle.session_core.specs.Cores.{VerifierStage, VerifierState, VerifierAnswers, VerifierRefuses, awaits_hello, owes_grant, behind_grant, awaits_asks, awaits_corrections, awaits_sums, awaits_openings, has_judged, has_refused, judgement_at, verifier_expects}
use Rattle.session_core.specs.declared.fault.VerifierFault.{VerifierFault}
use Rattle.session_core.specs.declared.judgement.Judgement.{Judgement}
use Rattle.session_driver.specs.Runs.{Moves}
use Rattle.session_driver.specs.declared.drive.Outcome.{Outcome}
use Rattle.session_driver.specs.declared.drive.Outcome.TheVariants.{Done, Refused, Cut}
use Rattle.session_verifier.specs.Stages.{Greets, IsBehind, IsHeldJob, AreUnits}
use Rattle.session_verifier.specs.Outcomes.{hello_code, judgement_outcome, grant_code, grant_outcome, verifier_line_outcome, verifier_fault_outcome}
use Rattle.session_verifier.specs.declared.note.VerifierOutcome.{VerifierOutcome}
use Rattle.session_verifier.specs.declared.note.VerifierOutcome.TheVariants.{NoMemory}

-- ---- who leases units

-- What one who leases units tells: what it answered, how many it was asked for, of how many it leases, for how many it may be
-- asked, and what an answer makes of it.
pub record Grants (R : Type 0) : Type 1 where
  pub answer : R → Option (Result Span GrantFault)
  pub asked : R → Option ℕ
  pub total : R → ℕ
  pub may : R → ℕ → Type 0
  pub moves : R → ℕ → Result Span GrantFault → R → Type 0

-- by these
abbrev pub grants_of : {R : Type 0} → (R → Option (Result Span GrantFault)) → (R → Option ℕ) → (R → ℕ) → (R → ℕ → Type 0)
    → (R → ℕ → Result Span GrantFault → R → Type 0) → Grants R
grants_of answer asked total may moves = record { answer = answer; asked = asked; total = total; may = may; moves = moves }

-- it was asked for so many units, and answered so
pub record Leases {R : Type 0} (grants : Grants R) (count : ℕ) (answer : Result Span GrantFault) (old new : R) : Type 0 where
  pub told : grants.answer new ≡ Some answer
  pub asked : grants.asked new ≡ Some count
  pub total : grants.total new ≡ grants.total old
  pub moves : grants.moves old count answer new

-- ---- the verifier's end

-- a verifier's jobs, its core, the number of the statement that was taken, the units that were granted, and the one who leases them
pub record Served (R : Type 0) : Type 0 where
  pub jobs : VerifierJobs
  pub core : VerifierState
  pub taken : Option ℕ
  pub granted : Option Span
  pub grantor : R

-- by these
abbrev pub served : {R : Type 0} → VerifierJobs → VerifierState → Option ℕ → Option Span → R → Served R
served jobs core taken granted grantor =
    record { jobs = jobs; core = core; taken = taken; granted = granted; grantor = grantor }

-- where it waits for the hello, a refusal may go out in the grant's place
abbrev pub lack_code_at : VerifierStage → Option ℕ
lack_code_at awaits_hello = Some 4
lack_code_at stage = None

-- how many frames it takes yet, at most: from the hello on one for each unit, the corrections, the sums and the openings
abbrev pub verifier_frames_left : VerifierJob → VerifierStage → ℕ
verifier_frames_left job awaits_hello = MAX_UNITS + 4
verifier_frames_left job owes_grant = MAX_UNITS + 4
verifier_frames_left job (awaits_asks start asked) = units_of_job job - length asked + 3
verifier_frames_left job (awaits_corrections start) = 3
verifier_frames_left job (awaits_sums start d) = 2
verifier_frames_left job (awaits_openings start d both) = 1
verifier_frames_left job (has_judged start judgement) = 0
verifier_frames_left job has_refused = 0

-- A hello came where one was awaited, and this is what it was taken for.
pub record Met {R : Type 0} (jobs : VerifierJobs) (old : Served R) (frame : Frame) (new : Served R) : Type 0 where
  pub waits : old.core.stage ≡ awaits_hello
  pub hello : Hello
  pub is : frame ≡ greeting hello
  pub ranged : IsHello hello
  pub takes : TakesHello jobs hello new.taken
  pub job : new.core.job ≡ noted_job jobs new.taken
  pub placed : Allows (hello_place new.core.job.task.statement.kind) frame

-- one for a statement
pub record Greeted {R : Type 0} (jobs : VerifierJobs) (old : Served R) (frame : Frame) (new : Served R) : Type 0 where
  pub met : Met jobs old frame new
  pub greets : Greets new.core.job frame
  pub number : ℕ
  pub taken : new.taken ≡ Some number

-- Such a hello came, and units were leased: their grant is the answer.
pub record GrantsUnits {R : Type 0} (jobs : VerifierJobs) (grants : Grants R) (old : Served R) (frame : Frame) (answer : List Frame)
    (new : Served R) : Type 0 where
  pub greeted : Greeted jobs old frame new
  pub span : Span
  pub are : AreUnits new.core.job span
  pub leased : Leases grants (units_of_job new.core.job) (Ok span) old.grantor new.grantor
  pub answer_is : answer ≡ grant (granted_from new.core.job span.start) ∷ []
  pub stage : new.core.stage ≡ behind_grant new.core.job span.start
  pub granted : new.granted ≡ Some span

-- after the grant the core answers
pub record VerifierAnswersBehind {R : Type 0} (old : Served R) (frame : Frame) (answer : List Frame) (new : Served R) : Type 0 where
  pub span : Span
  pub behind : old.granted ≡ Some span
  pub held : IsHeldJob old.core.job
  pub answers : VerifierAnswers old.core.job old.core.stage frame answer new.core.stage
  pub job : new.core.job ≡ old.core.job
  pub taken : new.taken ≡ old.taken
  pub granted : new.granted ≡ old.granted
  pub grantor : new.grantor ≡ old.grantor

-- the core does not meet a hello, which is refused
pub record RefusesHello {R : Type 0} (jobs : VerifierJobs) (old : Served R) (frame : Frame) (outcome : VerifierOutcome) (code : Option ℕ)
    (new : Served R) : Type 0 where
  pub met : Met jobs old frame new
  pub fault : VerifierFault
  pub refuses : VerifierRefuses new.core.job awaits_hello frame fault
  pub outcome_is : outcome ≡ verifier_fault_outcome fault
  pub code_is : code ≡ Some (hello_code fault)
  pub granted : new.granted ≡ old.granted
  pub grantor : new.grantor ≡ old.grantor

-- the core refuses a frame after the grant
pub record VerifierRefusesBehind {R : Type 0} (old : Served R) (frame : Frame) (outcome : VerifierOutcome) (code : Option ℕ) (new : Served R) : Type 0 where
  pub span : Span
  pub behind : old.granted ≡ Some span
  pub fault : VerifierFault
  pub refuses : VerifierRefuses old.core.job old.core.stage frame fault
  pub outcome_is : outcome ≡ verifier_fault_outcome fault
  pub code_is : code ≡ None
  pub job : new.core.job ≡ old.core.job
  pub taken : new.taken ≡ old.taken
  pub granted : new.granted ≡ old.granted
  pub grantor : new.grantor ≡ old.grantor

-- a hello for a statement came, and units were not leased
pub record RefusesLease {R : Type 0} (jobs : VerifierJobs) (grants : Grants R) (old : Served R) (frame : Frame) (outcome : VerifierOutcome)
    (code : Option ℕ) (new : Served R) : Type 0 where
  pub greeted : Greeted jobs old frame new
  pub fault : GrantFault
  pub leased : Leases grants (units_of_job new.core.job) (Err fault) old.grantor new.grantor
  pub outcome_is : outcome ≡ grant_outcome fault
  pub code_is : code ≡ Some (grant_code fault)
  pub granted : new.granted ≡ old.granted

-- a hello for a statement came, and units were leased, but memory was missing for their grant
pub record LacksGrantFrame {R : Type 0} (jobs : VerifierJobs) (grants : Grants R) (old : Served R) (frame : Frame) (outcome : VerifierOutcome)
    (code : Option ℕ) (new : Served R) : Type 0 where
  pub greeted : Greeted jobs old frame new
  pub span : Span
  pub are : AreUnits new.core.job span
  pub leased : Leases grants (units_of_job new.core.job) (Ok span) old.grantor new.grantor
  pub outcome_is : outcome ≡ NoMemory
  pub code_is : code ≡ Some 4
  pub granted : new.granted ≡ Some span

-- what is answered, and what is refused
abbrev pub ServingAnswers : {R : Type 0} → VerifierJobs → Grants R → Served R → Frame → List Frame → Served R → Type 0
ServingAnswers jobs grants s frame answer t = GrantsUnits jobs grants s frame answer t ⊎ VerifierAnswersBehind s frame answer t

abbrev pub ServingRefuses : {R : Type 0} → VerifierJobs → Grants R → Served R → Frame → VerifierOutcome → Option ℕ → Served R → Type 0
ServingRefuses jobs grants s frame outcome code t =
    RefusesHello jobs s frame outcome code t ⊎ RefusesLease jobs grants s frame outcome code t
    ⊎ LacksGrantFrame jobs grants s frame outcome code t ⊎ VerifierRefusesBehind s frame outcome code t

-- what a verifier's end does, whose jobs stay
abbrev pub serves : {R : Type 0} → Grants R → Moves (Served R) VerifierOutcome
serves grants = record {
  expects = λ s. verifier_expects s.core.job s.core.stage;
  lack_code = λ s. lack_code_at s.core.stage;
  answers = λ s frame answer t. (t.jobs ≡ s.jobs) × ServingAnswers s.jobs grants s frame answer t;
  refuses = λ s frame outcome code t. (t.jobs ≡ s.jobs) × ServingRefuses s.jobs grants s frame outcome code t;
}

-- Where it waits for the hello, no statement was taken and no units were asked for yet, and any number may be; else they were granted.
abbrev pub IsPlace : {R : Type 0} → Grants R → Served R → Option Span → Type 0
IsPlace grants now None =
    (now.core.stage ≡ awaits_hello)
    × (now.taken ≡ None)
    × (grants.answer now.grantor ≡ None)
    × ((count : ℕ) → 1 ≤ count → count ≤ MAX_UNITS → grants.may now.grantor count)
    × (grants.total now.grantor ≤ now.jobs.first.task.file.params.total)
IsPlace grants now (Some span) = IsBehind span.start now.core.stage

-- what holds of it between its steps
pub record IsServing {R : Type 0} (grants : Grants R) (now : Served R) : Type 0 where
  pub job_is : now.core.job ≡ noted_job now.jobs now.taken
  pub within : IfSome now.taken (λ n. n < length (all_jobs now.jobs))
  pub place : IsPlace grants now now.granted

-- the outcome by which a session is noted that stopped so
abbrev pub IsToldAs : VerifierStage → Outcome VerifierOutcome → VerifierOutcome → Type 0
IsToldAs stage Done outcome = (judgement : Judgement) × (judgement_at stage ≡ Some judgement) × (outcome ≡ judgement_outcome judgement)
IsToldAs stage (Refused fault) outcome = outcome ≡ fault
IsToldAs stage (Cut fault) outcome = outcome ≡ verifier_line_outcome fault
