-- What a note of a session says.
use Rattle.std.specs.Prelude.{◌≡◌, ◌⊎◌, ℕ, ◌+◌, ◌≤◌, List, [], ◌++◌, length, true, Option, Some, None, IfSome, Result, Ok, Err}
use Rattle.zk_model.specs.Files.{ProverFile, IsProverFile, AreDealt}
use Rattle.zk_model.specs.Mac.{Pair, AreKeysOf}
use Rattle.zk_model.specs.Correlations.{IsProverView, span_keys}
use Rattle.zk_model.specs.View.{ChecksHold, SaysVerdict, span_of}
use Rattle.zk_model.specs.Transcript.{Hello, Setup, Transcript, IsHello, IsHelloFor, IsSetup, IsInOrder, BeginsWith, hello_frame, refuse_frame, bytes_from, turn_bytes, setup_turns, sent_by}
use Rattle.zk_model.specs.ServedVerifier.{IsServed, IsAccepted, ServesWith, challenge_coin}
use Rattle.zk_model.specs.Audit.{hello_place}
use Rattle.zk_model.specs.declared.StatementKind.{StatementKind}
use Rattle.zk_model.specs.declared.Side.{Side}
use Rattle.zk_model.specs.declared.Side.TheVariants.{Prover, Verifier}
use Rattle.zk_model.specs.declared.Span.{Span}
use Rattle.zk_model.specs.declared.Verdict.TheVariants as verdict
use Rattle.zk_model.specs.HonestProver.{ProverTask}
use Rattle.zk_model.specs.Peers.{IsFromHonestProver, HasEndedHonestly}
use Rattle.zk_laws.specs.Extraction.{IsExtracted}
use Rattle.zk_laws.specs.Completeness.{AreCounterparts}
use Rattle.session_laws.specs.Peers.{HasWitness, GivesClaims}
use Rattle.zk_port.specs.Counts.{Rose, counted}
use Rattle.zk_port.specs.Logs.{appended}
use Rattle.frame_link.specs.Lines.{LinkSnapshot, IsWithinFrame}
use Rattle.frame_link.specs.declared.fault.LineFault.{LineFault}
use Rattle.frame_link.specs.declared.fault.LineFault.TheVariants as line
use Rattle.session_driver.specs.Leaving.{RefusesSends}
use Rattle.lease_store.specs.declared.grantor.GrantFault.{GrantFault}
use Rattle.lease_store.specs.declared.LeaseFault.TheVariants as lease
use Rattle.lease_store.specs.declared.grantor.GrantFault.TheVariants as grant
use Rattle.session_core.specs.Jobs.{VerifierJob, VerifierJobs, IsFirstFor, IsForNone, job_at, units_of_job, granted_from}
use Rattle.session_core.specs.declared.fault.HelloDiffers.{HelloDiffers}
use Rattle.session_core.specs.Judgements.{IsJudgement, verdict_in}
use Rattle.session_core.specs.Cores.{VerifierStage, DiffersFirst}
use Rattle.session_core.specs.declared.judgement.Judgement.{Judgement}
use Rattle.session_core.specs.declared.judgement.Judgement.TheVariants as judged
use Rattle.session_verifier.specs.Outcomes.{HasRefusal, grant_outcome, judgement_outcome, refusal_of}
use Rattle.session_verifier.specs.Stages.{Greeting, IsGrantUnsent, IsJudged, IsRefusedGrant, IsStopped, IsWholeHello, RefusesAfter}
use Rattle.session_verifier.specs.declared.note.VerifierOutcome.{VerifierOutcome}
use Rattle.session_verifier.specs.declared.note.VerifierOutcome.TheVariants.{Accepted, RejectedSum, RejectedOpening, PeerEnded, BadFrame, BadHello, Exhausted, Device, Broken, NoBlock, Broker, Link, NoMemory}

-- A whole session, with a grant of the units that were leased, that the verifier serves: it is in order, the challenge is its
-- coin, and its verdict, which was sent, is that of its checks, with both sides of the equation that fails.
pub record IsJudgedSession (job : VerifierJob) (granted : Option Span) (judgement : Judgement) (log : List (Side × ℕ)) : Type 0 where
  pub span : Span
  pub leased : granted ≡ Some span
  pub t : Transcript
  pub grant : t.commitment.setup.grant ≡ granted_from job span.start
  pub served : IsServed job.task t (verdict_in judgement) log
  pub found : IsJudgement job.task t judgement

-- each outcome that is a judgement stands for such a session
abbrev pub JudgesRightly : VerifierJob → Option Span → VerifierOutcome → List (Side × ℕ) → Type 0
JudgesRightly job granted outcome log =
    (judgement : Judgement) → outcome ≡ judgement_outcome judgement → IsJudgedSession job granted judgement log

-- an accepted log has no other outcome
abbrev pub AcceptsExactly : VerifierJob → VerifierOutcome → List (Side × ℕ) → Type 0
AcceptsExactly job outcome log = IsAccepted job.task log → outcome ≡ Accepted

-- What an accepted session shows. Its log is that of a transcript in order for the job's file and statement, with a grant of the
-- units that were leased and the job's length of sections; the challenge is the coin of the first unit, all checks hold, and the
-- verdict says so. And for every prover's file that is dealt with the verifier's there is a finding, and every finding shows inputs
-- that make the program give the claims, or a root of a named polynomial that is not zero: at the challenge, or at the key.
pub record IsShown (job : VerifierJob) (granted : Option Span) (log : List (Side × ℕ)) : Type 0 where
  pub span : Span
  pub leased : granted ≡ Some span
  pub units : span.end ≡ span.start + units_of_job job
  pub t : Transcript
  pub in_order : IsInOrder job.task.file.params job.task.file.id job.task.statement t log
  pub grant : t.commitment.setup.grant ≡ granted_from job span.start
  pub challenge : t.challenge ≡ challenge_coin job.task.file span.start
  pub checks : ChecksHold job.task.file job.task.statement t
  pub said : SaysVerdict t verdict.Accepted
  pub extracted : (prover : ProverFile) → IsProverFile prover → AreDealt prover job.task.file
      → IsExtracted prover job.task.file job.task.statement t

-- The log of a session in which no units were leased: of the prover nothing past its hello; and nothing of the verifier, or the refusal of
-- its outcome.
pub record IsUngranted (kind : StatementKind) (outcome : VerifierOutcome) (log : List (Side × ℕ)) : Type 0 where
  pub rest : List ℕ
  pub few : IsWithinFrame (hello_place kind) rest
  pub answer : List ℕ
  pub refused : (answer ≡ []) ⊎ ((code : ℕ) × (refusal_of outcome ≡ Some code) × (answer ≡ refuse_frame code))
  pub bytes : log ≡ bytes_from Prover rest ++ bytes_from Verifier answer

-- these are bytes of a hello for the job's file and statement, and a refusal of this code
abbrev pub EndsByRefusal : VerifierJob → ℕ → List (Side × ℕ) → Type 0
EndsByRefusal job code log = (greeting : Greeting job)
    × (log ≡ bytes_from Prover (hello_frame greeting.hello) ++ bytes_from Verifier (refuse_frame code))

-- What the verifier sends: where units were leased, its part of a session that it serves with their grant, or of a beginning of
-- one; or, where memory was missing for the grant, a refusal in its place.
abbrev pub SendsRightly : VerifierJob → Option Span → VerifierOutcome → List (Side × ℕ) → Type 0
SendsRightly job None outcome log = IsUngranted job.task.statement.kind outcome log
SendsRightly job (Some span) outcome log =
    ServesWith job.task (granted_from job span.start) log ⊎ ((outcome ≡ NoMemory) × EndsByRefusal job 4 log)

-- a first part of the refusal of an outcome, after a whole hello
pub record BeginsRefusal (outcome : VerifierOutcome) (log : List (Side × ℕ)) : Type 0 where
  pub rest : List ℕ
  pub hello : IsWholeHello rest
  pub code : ℕ
  pub code_is : refusal_of outcome ≡ Some code
  pub answer : List ℕ
  pub begun : BeginsWith (refuse_frame code) answer
  pub bytes : log ≡ bytes_from Prover rest ++ bytes_from Verifier answer

-- the same of a log with a part of an answer whose send was refused
abbrev pub TellsRightly : VerifierJob → Option Span → VerifierOutcome → List (Side × ℕ) → Type 0
TellsRightly job None outcome log = IsUngranted job.task.statement.kind outcome log ⊎ BeginsRefusal outcome log
TellsRightly job (Some span) outcome log =
    ServesWith job.task (granted_from job span.start) log ⊎ ((outcome ≡ NoMemory) × BeginsRefusal NoMemory log)

-- Whatever was asked: for every prover's file that is dealt with the verifier's, and every setup of a session about the statement
-- with whose turns the log begins, the verifier's keys of the granted units fit the pairs that the prover sees then.
abbrev pub KeepsKeys : VerifierJob → List (Side × ℕ) → Type 0
KeepsKeys job log = (prover : ProverFile) (setup : Setup) (pairs : List Pair)
    → IsProverFile prover → AreDealt prover job.task.file
    → IsSetup job.task.file.params job.task.statement.program setup
    → BeginsWith log (turn_bytes (setup_turns setup))
    → IsProverView prover setup pairs
    → AreKeysOf job.task.file.key pairs (span_keys job.task.file (span_of setup.grant))

-- units were leased, and the session was judged so: its log is whole, and each answer was sent by one send
pub record HasJudged
    (job : VerifierJob)
    (answer : Option (Result Span GrantFault))
    (judgement : Judgement)
    (first now : LinkSnapshot) : Type 0 where
  pub span : Span
  pub leased : answer ≡ Some (Ok span)
  pub judged : IsJudged job span.start judgement first now

-- the session stopped so where the verifier waited for a frame
abbrev pub StopsSomewhere : VerifierJob → LineFault → LinkSnapshot → LinkSnapshot → Type 0
StopsSomewhere job fault first now = (stage : VerifierStage) × IsStopped job stage fault first now

-- units were leased, and the one send of their grant was refused
abbrev pub FailsToGrant :
    VerifierJob → Option (Result Span GrantFault) → LineFault → LinkSnapshot → LinkSnapshot → Type 0
FailsToGrant job answer fault first now =
    (span : Span) × (answer ≡ Some (Ok span)) × IsGrantUnsent job span.start fault first now

-- a hello came that differs so: refusal 1 was sent
abbrev pub RefusesDiffering : VerifierJob → HelloDiffers → LinkSnapshot → LinkSnapshot → Type 0
RefusesDiffering job differs first now = (said : Hello)
    × IsHello said × DiffersFirst job.task.file.id job.task.statement said differs × RefusesAfter said 1 first now

-- memory was missing in the grant's place, after a whole hello: refusal 4 was sent; units were leased only after one for the statement
pub record LacksGrant
    (job : VerifierJob)
    (answer : Option (Result Span GrantFault))
    (first now : LinkSnapshot) : Type 0 where
  pub said : Hello
  pub is : IsHello said
  pub fits : IfSome answer (λ _. IsHelloFor job.task.file.id job.task.statement said)
  pub refused : RefusesAfter said 4 first now

-- no units were refused
abbrev pub RefusesNoLease : Option (Result Span GrantFault) → Type 0
RefusesNoLease answer = (fault : GrantFault) → ¬ (answer ≡ Some (Err fault))

-- why units were refused is the outcome
abbrev pub AnswersLease : Option (Result Span GrantFault) → VerifierOutcome → Type 0
AnswersLease answer outcome = (fault : GrantFault) → answer ≡ Some (Err fault) → outcome ≡ grant_outcome fault

-- Why a session ended so: what was judged; what came; what the one who leases units answered, and the refusal that was sent; the
-- link failed, in a receive or in the send of an answer; or memory was missing. Where units were refused, that is the cause, and no
-- fault beside it.
abbrev pub EndsBecause :
    VerifierJob → Option (Result Span GrantFault) → VerifierOutcome → LinkSnapshot → LinkSnapshot → Type 0
EndsBecause job answer Accepted first now = HasJudged job answer judged.Accepted first now
EndsBecause job answer (RejectedSum section left right) first now =
    HasJudged job answer (judged.RejectedSum section left right) first now
EndsBecause job answer (RejectedOpening output left right) first now =
    HasJudged job answer (judged.RejectedOpening output left right) first now
EndsBecause job answer (PeerEnded at) first now = StopsSomewhere job (line.PeerEnded at) first now
EndsBecause job answer (BadFrame at) first now = StopsSomewhere job (line.BadFrame at) first now
EndsBecause job answer (BadHello differs) first now = RefusesDiffering job differs first now
EndsBecause job answer (Exhausted at count total) first now =
    (answer ≡ Some (Err (grant.Lease (lease.Exhausted at count total)))) × IsRefusedGrant job 2 first now
EndsBecause job answer Device first now = (answer ≡ Some (Err (grant.Lease lease.Device))) × IsRefusedGrant job 3 first now
EndsBecause job answer (Broken at) first now =
    (answer ≡ Some (Err (grant.Lease (lease.Broken at)))) × IsRefusedGrant job 3 first now
EndsBecause job answer (NoBlock wants) first now = (answer ≡ Some (Err (grant.NoBlock wants))) × IsRefusedGrant job 3 first now
EndsBecause job answer Broker first now = (answer ≡ Some (Err grant.Broker)) × IsRefusedGrant job 3 first now
EndsBecause job answer Link first now =
    RefusesNoLease answer × (StopsSomewhere job line.Link first now ⊎ FailsToGrant job answer line.Link first now)
EndsBecause job answer NoMemory first now =
    (RefusesNoLease answer
    × (StopsSomewhere job line.NoMemory first now ⊎ LacksGrant job answer first now
    ⊎ FailsToGrant job answer line.NoMemory first now))
    ⊎ ((answer ≡ Some (Err grant.NoMemory)) × IsRefusedGrant job 4 first now)

-- a log begins by these bytes, which are a hello
abbrev pub BeginsByHello : Hello → List (Side × ℕ) → Type 0
BeginsByHello said log = IsHello said × BeginsWith log (bytes_from Prover (hello_frame said))

-- the statement of this number was taken, if one was: the log begins by a hello for it, and for none before it
abbrev pub HasTaken : VerifierJobs → Option ℕ → List (Side × ℕ) → Type 0
HasTaken jobs taken log = IfSome taken (λ n. (said : Hello) × IsFirstFor jobs n said × BeginsByHello said log)

-- Where no statement was taken, no units were asked for; and a hello that differs is for no statement.
pub record TakesStatement (jobs : VerifierJobs) (taken : Option ℕ) (answer : Option (Result Span GrantFault)) (outcome : VerifierOutcome)
    (log : List (Side × ℕ)) : Type 0 where
  pub has : HasTaken jobs taken log
  pub none : taken ≡ None → answer ≡ None
  pub differs : (differs : HelloDiffers) → outcome ≡ BadHello differs
      → (taken ≡ None) × ((said : Hello) × IsForNone jobs said × BeginsByHello said log)

-- no units are leased before a hello for the job's file and statement came
abbrev pub LeasesBehindHello : VerifierJob → Option (Result Span GrantFault) → List (Side × ℕ) → Type 0
LeasesBehindHello job answer log =
    IfSome answer (λ _. (greeting : Greeting job) × BeginsWith log (bytes_from Prover (hello_frame greeting.hello)))

-- no send was refused: the link did not fail, and no refusal was due
abbrev pub IsAllSent : VerifierOutcome → Type 0
IsAllSent Link = ⊥
IsAllSent outcome = refusal_of outcome ≡ None

-- What the link tells is what it told before and the log; where a send was refused, a first part of the one answer that was due
-- then, and nothing else. No more than that one was refused, and only where one was is any of that part told.
pub record IsTold (job : VerifierJob) (granted : Option Span) (outcome : VerifierOutcome) (first now : LinkSnapshot) : Type 0 where
  pub part : List ℕ
  pub told : now.told ≡ appended (now.log ++ bytes_from Verifier part) first.told
  pub refused : RefusesSends (¬ IsAllSent outcome) part first now
  pub rightly : TellsRightly job granted outcome (now.log ++ bytes_from Verifier part)

-- The count of failed calls does not fall. It rises where the outcome is `Link`; else only by the one send of a refusal that was
-- refused, which is then not logged.
pub record CountsFaults (outcome : VerifierOutcome) (first now : LinkSnapshot) : Type 0 where
  pub later : first.faults ≤ now.faults
  pub failed : outcome ≡ Link → Rose first.faults now.faults
  pub unfailed : (now.faults ≡ first.faults) ⊎ (outcome ≡ Link)
      ⊎ (HasRefusal outcome × (sent_by Verifier now.log ≡ []) × (now.sends ≡ counted true first.sends)
      × (now.refused_sends ≡ counted true first.refused_sends))

-- at most one receive more than bytes of the prover came
abbrev pub ReceivesFew : LinkSnapshot → LinkSnapshot → Type 0
ReceivesFew first now = now.receives ≤ first.receives + length (sent_by Prover now.log) + 1

-- The peer is an honest prover with the same statement, a file that is dealt with the verifier's, and values that give the
-- claims: what came from it is a beginning of what such a prover sends for what the verifier sent, and it ended only after all
-- of that.
pub record HasHonestProver (job : VerifierJob) (prover : ProverTask) (outcome : VerifierOutcome) (log : List (Side × ℕ)) : Type 0 where
  pub counterparts : AreCounterparts prover job.task
  pub witness : HasWitness prover
  pub claims : GivesClaims prover
  pub honest : IsFromHonestProver prover log
  pub ended : (at : ℕ) → outcome ≡ PeerEnded at → HasEndedHonestly prover log

-- where no units were refused and the link's count did not rise, the session is accepted, unless memory was missing
abbrev pub IsAcceptedInCalm : Option (Result Span GrantFault) → VerifierOutcome → LinkSnapshot → LinkSnapshot → Type 0
IsAcceptedInCalm answer outcome first now =
    RefusesNoLease answer → ¬ Rose first.faults now.faults → (outcome ≡ Accepted) ⊎ (outcome ≡ NoMemory)

-- so it is with an honest peer
abbrev pub VerifierCompletes :
    VerifierJob → Option (Result Span GrantFault) → VerifierOutcome → LinkSnapshot → LinkSnapshot → Type 0
VerifierCompletes job answer outcome first now =
    (prover : ProverTask) → HasHonestProver job prover outcome now.log → IsAcceptedInCalm answer outcome first now

-- The peer is an honest prover of one of the statements: one that is taken, since a hello is for it and for none before it. All
-- hellos for one statement are for the same ones, so that of the peer is taken for it too.
pub record HasHonestCaller (jobs : VerifierJobs) (prover : ProverTask) (outcome : VerifierOutcome) (log : List (Side × ℕ)) : Type 0 where
  pub number : ℕ
  pub hello : Hello
  pub first : IsFirstFor jobs number hello
  pub peer : HasHonestProver (job_at jobs number) prover outcome log

-- and with an honest prover of whichever statement
abbrev pub CompletesForEach :
    VerifierJobs → Option (Result Span GrantFault) → VerifierOutcome → LinkSnapshot → LinkSnapshot → Type 0
CompletesForEach jobs answer outcome first now =
    (prover : ProverTask) → HasHonestCaller jobs prover outcome now.log → IsAcceptedInCalm answer outcome first now
