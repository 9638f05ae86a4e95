-- What a prover's note says of its session.
use Rattle.std.specs.Prelude.{◌≡◌, ◌⊎◌, ℕ, ◌+◌, ◌≤◌, ◌<◌, List, [], ◌++◌, length, true, Option, Some, None, IfSome, Result, Ok, Err}
use Rattle.zk_model.specs.Mac.{Pair, AreKeysOf}
use Rattle.zk_model.specs.Files.{VerifierFile, IsVerifierFile, AreDealt}
use Rattle.zk_model.specs.Correlations.{IsProverView, span_keys}
use Rattle.zk_model.specs.View.{span_of}
use Rattle.zk_model.specs.ServedVerifier.{VerifierTask, RepliesAre}
use Rattle.zk_model.specs.Transcript.{wanted_hello, Grant, Round, Transcript, IsInOrder, BeginsWith, refuse_frame, bytes_from, sent_by}
use Rattle.zk_model.specs.Frames.{Frame, CanGoOn, IsFirstBad, FitsGrant, FitsRefusal, frame_length}
use Rattle.zk_model.specs.HonestProver.{ProverTask, IsWitness, IsHonest, honest_corrections}
use Rattle.zk_model.specs.Peers.{IsFromHonestProver, IsFromHonestVerifier, HasEndedHonestly}
use Rattle.zk_model.specs.declared.Expect.{Expect}
use Rattle.zk_model.specs.declared.Kind.TheVariants.{Extended}
use Rattle.zk_model.specs.declared.Side.{Side}
use Rattle.zk_model.specs.declared.Side.TheVariants.{Prover, Verifier}
use Rattle.zk_model.specs.declared.Span.{Span}
use Rattle.zk_port.specs.Counts.{Rose, counted}
use Rattle.zk_port.specs.Logs.{appended}
use Rattle.claim_store.specs.declared.ClaimFault.{ClaimFault}
use Rattle.claim_store.specs.declared.ClaimFault.TheVariants as refusal
use Rattle.frame_link.specs.Lines.{LinkSnapshot, IsCutShort, counted_times}
use Rattle.session_core.specs.Jobs.{ProverJob, Suits}
use Rattle.session_core.specs.Cores.{ProverStage, ProverAnswers, prover_expects}
use Rattle.session_prover.specs.Outcomes.{claim_outcome, verdict_outcome}
use Rattle.session_prover.specs.Stages.{Claim, ClaimedFor, RefusedFor, AreAskedRounds, greeting, all_asks, greeted_log, granted_log, fixed_log, setup_for, IsProverLogAt, IsLogTaken}
use Rattle.session_prover.specs.declared.note.ProverOutcome.{ProverOutcome}
use Rattle.session_prover.specs.declared.note.ProverOutcome.TheVariants.{Accepted, Rejected, PeerEnded, BadFrame, BadGrant, PeerRefused, Broken, OutOfRange, Overlap, Full, Device, Link, NoMemory}
use Rattle.session_driver.specs.Leaving.{RefusesSends, ComesAt}
use Rattle.session_driver.specs.Runs.{answers_in}

-- what a prover with these inputs has
abbrev pub task_of : ProverJob → List ℕ → ProverTask
task_of job inputs = record { file = job.file; statement = job.statement; inputs = inputs }

-- ---- the grant

-- the units that were claimed, if any were
abbrev pub granted_of : Option (Result Span ClaimFault) → Option Span
granted_of None = None
granted_of (Some (Ok span)) = Some span
granted_of (Some (Err fault)) = None

-- the grant was read right after the greeting, and it suits the job
pub record IsGrantRead (job : ProverJob) (log : List (Side × ℕ)) (given : Grant) : Type 0 where
  pub suits : Suits job.file.params job.statement.program given
  pub begun : BeginsWith log (granted_log job given)

-- The claimant was not asked; or it was for the units of a grant that was read and suits, and it claimed them or refused.
abbrev pub IsAskedRight : ProverJob → Claim → List (Side × ℕ) → Type 0
IsAskedRight job claim log = (claim.answer ≡ None)
    ⊎ ((given : Grant) × IsGrantRead job log given
    × (ClaimedFor claim given ⊎ ((fault : ClaimFault) × RefusedFor claim given fault)))

-- The note has the units that the claimant claimed, and none where it claimed none; it was asked right.
pub record HasClaimedUnits
    (job : ProverJob)
    (claim : Claim)
    (log : List (Side × ℕ))
    (granted : Option Span) : Type 0 where
  pub granted_is : granted ≡ granted_of claim.answer
  pub asked : IsAskedRight job claim log

-- Nothing is sent past the greeting, unless the units of a grant that was read and suits are claimed.
abbrev pub SendsOnceClaimed : ProverJob → Claim → List (Side × ℕ) → Type 0
SendsOnceClaimed job claim log = BeginsWith (greeting job) (sent_by Prover log)
    ⊎ ((given : Grant) × IsGrantRead job log given × ClaimedFor claim given)

-- ---- the outcome

-- The log is that of a whole session about the job's statement, whose verdict has this code and this number; it begins with the
-- prover's own hello, and the prover is honest in it, whatever values of wires and inputs its given values are of.
pub record ReadsVerdict (job : ProverJob) (log : List (Side × ℕ)) (code number : ℕ) : Type 0 where
  pub t : Transcript
  pub in_order : IsInOrder job.file.params job.file.id job.statement t log
  pub greeted : t.commitment.setup.hello ≡ wanted_hello job.file.id job.statement
  pub honest : (inputs wires : List ℕ) → IsWitness job.statement inputs wires job.given → IsHonest (task_of job inputs) t
  pub code_is : t.code ≡ code
  pub number_is : t.number ≡ number

-- after what is logged where the prover waited, bytes came of the frame that it expected, and none past it; and this holds of both
pub record ProverStopsBehind
    (job : ProverJob)
    (claim : Claim)
    (log : List (Side × ℕ))
    (P : Expect → List ℕ → Type 0) : Type 0 where
  pub stage : ProverStage
  pub comes : ComesAt (IsProverLogAt job claim) (prover_expects job) Verifier stage log
  pub open comes use *
  pub cause : P place rest

-- the claimant refused the units of the grant that was read
abbrev pub IsClaimRefused : ProverJob → Claim → List (Side × ℕ) → ClaimFault → Type 0
IsClaimRefused job claim log fault = (given : Grant)
    × Suits job.file.params job.statement.program given × RefusedFor claim given fault × (log ≡ granted_log job given)

-- a frame was read that is to be answered, by at least so many frames
pub record OwesAnswer (job : ProverJob) (claim : Claim) (least : ℕ) (log : List (Side × ℕ)) : Type 0 where
  pub stage : ProverStage
  pub frame : Frame
  pub taken : IsLogTaken job claim stage frame log
  pub answer : List Frame
  pub next : ProverStage
  pub answers : ProverAnswers job stage frame answer next
  pub some : least ≤ length answer

-- the greeting is due, before the claimant is asked; or the answer to a frame, with at least so many frames
abbrev pub IsAnswerDue : ProverJob → Claim → ℕ → List (Side × ℕ) → Type 0
IsAnswerDue job claim least log = ((claim.answer ≡ None) × (log ≡ [])) ⊎ OwesAnswer job claim least log

-- Where the link failed: where a frame was expected of which bytes are missing, with no send but those of the answers that are logged,
-- of which none was refused; or in the one send of an answer that was due.
abbrev pub FailsLink : ProverJob → Claim → List (Side × ℕ) → LinkSnapshot → LinkSnapshot → Type 0
FailsLink job claim log first now =
    (ProverStopsBehind job claim log IsCutShort × (now.sends ≡ counted_times (answers_in Prover log) first.sends)
    × (now.refused_sends ≡ first.refused_sends))
    ⊎ (IsAnswerDue job claim 1 log × (now.sends ≡ counted_times (answers_in Prover log + 1) first.sends)
    × (now.refused_sends ≡ counted true first.refused_sends))

-- Why a session ended so. A verdict, a refusal or a grant was read; the peer has ended, with bytes still wanted, when so many
-- bytes had come; a byte at this place of all that came is the first bad one; the claimant refused; the link failed, or memory
-- was missing, where a frame or an answer was due; or it was missing for the claim.
abbrev pub IsOutcome : ProverJob → Claim → List (Side × ℕ) → LinkSnapshot → LinkSnapshot → ProverOutcome
    → Type 0
IsOutcome job claim log first now Accepted = (number : ℕ) × ReadsVerdict job log 0 number
IsOutcome job claim log first now (Rejected code number) = (1 ≤ code) × ReadsVerdict job log code number
IsOutcome job claim log first now (PeerEnded at) =
    ProverStopsBehind job claim log (λ expect rest. CanGoOn expect rest × (length rest < frame_length expect rest))
    × (at ≡ length (sent_by Verifier log))
    × IfSome now.ended (λ ended. ended ≡ true)
    × IfSome now.to_come (λ bytes. bytes ≡ [])
IsOutcome job claim log first now (BadFrame at) =
    (n : ℕ) × ProverStopsBehind job claim log (λ expect rest. IsFirstBad expect rest n
    × (at + length rest ≡ length (sent_by Verifier log) + n))
IsOutcome job claim log first now BadGrant =
    (given : Grant) × FitsGrant given × ¬ Suits job.file.params job.statement.program given × (log ≡ granted_log job given)
IsOutcome job claim log first now (PeerRefused code) =
    FitsRefusal code × (log ≡ greeted_log job ++ bytes_from Verifier (refuse_frame code))
IsOutcome job claim log first now (Broken count) = IsClaimRefused job claim log (refusal.Broken count)
IsOutcome job claim log first now (OutOfRange total) = IsClaimRefused job claim log (refusal.OutOfRange total)
IsOutcome job claim log first now (Overlap earlier) = IsClaimRefused job claim log (refusal.Overlap earlier)
IsOutcome job claim log first now (Full slots) = IsClaimRefused job claim log (refusal.Full slots)
IsOutcome job claim log first now Device = IsClaimRefused job claim log refusal.Device
IsOutcome job claim log first now Link = Rose first.faults now.faults × FailsLink job claim log first now
IsOutcome job claim log first now NoMemory =
    ProverStopsBehind job claim log IsCutShort ⊎ (IsAnswerDue job claim 0 log ⊎ IsClaimRefused job claim log refusal.NoMemory)

-- the count of faults does not fall, and rises only where the link failed
pub record CountsOutcome (outcome : ProverOutcome) (before after : ℕ) : Type 0 where
  pub later : before ≤ after
  pub unfailed : ¬ (outcome ≡ Link) → after ≡ before

-- A verdict that was read is answered: where the log is that of a whole session in order about the job's statement, the outcome is
-- what its verdict says.
abbrev pub AnswersVerdict : ProverJob → ProverOutcome → List (Side × ℕ) → Type 0
AnswersVerdict job outcome log = (t : Transcript) → IsInOrder job.file.params job.file.id job.statement t log
    → outcome ≡ verdict_outcome t.code t.number

-- What was read in the grant's place, and what the claimant answered, is answered: its refusal is the outcome, with nothing after
-- the grant that it refused; so are a grant that does not suit, and a refusal of the peer's; and after a grant that suits the
-- claimant is asked.
pub record AnswersGrantPlace (job : ProverJob) (claim : Claim) (outcome : ProverOutcome) (log : List (Side × ℕ)) : Type 0 where
  pub refused : (fault : ClaimFault) → claim.answer ≡ Some (Err fault) → (outcome ≡ claim_outcome fault) × IsClaimRefused job claim log fault
  pub unsuited : (given : Grant) → FitsGrant given → ¬ Suits job.file.params job.statement.program given
      → log ≡ granted_log job given → outcome ≡ BadGrant
  pub turned_away : (code : ℕ) → FitsRefusal code → log ≡ greeted_log job ++ bytes_from Verifier (refuse_frame code)
      → outcome ≡ PeerRefused code
  pub asked : (given : Grant) → FitsGrant given → Suits job.file.params job.statement.program given
      → log ≡ granted_log job given → ¬ (claim.answer ≡ None)

-- ---- what was sent

-- the link failed, or memory was missing
abbrev pub IsFault : ProverOutcome → Type 0
IsFault Link = Unit {0}
IsFault NoMemory = Unit {0}
IsFault outcome = ⊥

-- Each answer that is logged was sent by one send, and there was no other; or one more, which alone was refused, where the link failed or
-- memory was missing.
abbrev pub SendsEach : ProverOutcome → List (Side × ℕ) → LinkSnapshot → LinkSnapshot → Type 0
SendsEach outcome log first now =
    ((now.sends ≡ counted_times (answers_in Prover log) first.sends) × (now.refused_sends ≡ first.refused_sends))
    ⊎ (IsFault outcome × (now.sends ≡ counted_times (answers_in Prover log + 1) first.sends)
    × (now.refused_sends ≡ counted true first.refused_sends))

-- What was sent of a log in a session that ended so, by an honest prover for what it received: all of it; the greeting alone
-- where the grant is refused by either end; a beginning where the link failed or memory was missing.
abbrev pub IsSentFor : ProverTask → List ℕ → List (Side × ℕ) → ProverOutcome → Type 0
IsSentFor task hello log BadGrant = HasEndedHonestly task log × (sent_by Prover log ≡ hello)
IsSentFor task hello log (PeerRefused code) = HasEndedHonestly task log × (sent_by Prover log ≡ hello)
IsSentFor task hello log (Broken first) = IsFromHonestProver task log × (sent_by Prover log ≡ hello)
IsSentFor task hello log (OutOfRange total) = IsFromHonestProver task log × (sent_by Prover log ≡ hello)
IsSentFor task hello log (Overlap earlier) = IsFromHonestProver task log × (sent_by Prover log ≡ hello)
IsSentFor task hello log (Full slots) = IsFromHonestProver task log × (sent_by Prover log ≡ hello)
IsSentFor task hello log Device = IsFromHonestProver task log × (sent_by Prover log ≡ hello)
IsSentFor task hello log Link = IsFromHonestProver task log
IsSentFor task hello log NoMemory = IsFromHonestProver task log
IsSentFor task hello log outcome = HasEndedHonestly task log

-- whatever values of wires and inputs the job's given values are of
abbrev pub SendsHonestly : ProverJob → List (Side × ℕ) → ProverOutcome → Type 0
SendsHonestly job log outcome = (inputs wires : List ℕ) → IsWitness job.statement inputs wires job.given
    → IsSentFor (task_of job inputs) (greeting job) log outcome

-- What the link tells is what it told before and the log; where a send was refused, a first part of one answer more, which an
-- honest prover would send too, and none before the units are claimed.
pub record IsLogged
    (job : ProverJob)
    (claim : Claim)
    (outcome : ProverOutcome)
    (log : List (Side × ℕ))
    (first now : LinkSnapshot) : Type 0 where
  pub part : List ℕ
  pub told : now.told ≡ appended (log ++ bytes_from Prover part) first.told
  pub refused : RefusesSends (IsFault outcome) part first now
  pub honest : (inputs wires : List ℕ) → IsWitness job.statement inputs wires job.given
      → IsFromHonestProver (task_of job inputs) (log ++ bytes_from Prover part)
  pub claimed : SendsOnceClaimed job claim (log ++ bytes_from Prover part)

-- ---- the correlations

-- no correction is sent: nothing past the greeting and, in kind extended, the asks for the units of a grant that was read
abbrev pub SendsNoCorrections : ProverJob → List (Side × ℕ) → Type 0
SendsNoCorrections job log = BeginsWith (greeting job) (sent_by Prover log)
    ⊎ ((given : Grant) × IsGrantRead job log given × (job.file.params.kind ≡ Extended)
    × BeginsWith (greeting job ++ all_asks job given) (sent_by Prover log))

-- The log begins with a grant, its rounds, and corrections: those of the pairs that the prover sees. Where the replies are
-- those of a verifier's file that is dealt with the job's, the verifier's keys fit these pairs; and they are where the verifier
-- is honest.
pub record SendsCorrections (job : ProverJob) (log : List (Side × ℕ)) : Type 0 where
  pub given : Grant
  pub rounds : List Round
  pub pairs : List Pair
  pub d : List ℕ
  pub begun : BeginsWith log (fixed_log job given rounds d)
  pub asked : AreAskedRounds job given rounds
  pub seen : IsProverView job.file (setup_for job given rounds) pairs
  pub corrections : d ≡ honest_corrections job.given pairs
  pub keys : (verifier : VerifierFile) → IsVerifierFile verifier → AreDealt job.file verifier
      → RepliesAre verifier (setup_for job given rounds)
      → AreKeysOf verifier.key pairs (span_keys verifier (span_of given))
  pub replied : (verifier : VerifierTask) → AreDealt job.file verifier.file → job.statement ≡ verifier.statement
      → IsFromHonestVerifier verifier log → RepliesAre verifier.file (setup_for job given rounds)

-- the corrections that are sent, if any are, are those of pairs that the keys of a verifier fit whose replies were read
abbrev pub IsRelated : ProverJob → List (Side × ℕ) → Type 0
IsRelated job log = SendsNoCorrections job log ⊎ SendsCorrections job log

-- ---- all together

-- a session that ended so
pub record HasEnded (job : ProverJob) (claim : Claim) (first : LinkSnapshot) (outcome : ProverOutcome) (now : LinkSnapshot) : Type 0 where
  pub outcome_is : IsOutcome job claim now.log first now outcome
  pub asked : IsAskedRight job claim now.log
  pub honest : SendsHonestly job now.log outcome
  pub claimed : SendsOnceClaimed job claim now.log
  pub related : IsRelated job now.log
  pub answers : AnswersGrantPlace job claim outcome now.log
  pub verdict : AnswersVerdict job outcome now.log
  pub sends : SendsEach outcome now.log first now
  pub logged : IsLogged job claim outcome now.log first now
  pub count : CountsOutcome outcome first.faults now.faults
