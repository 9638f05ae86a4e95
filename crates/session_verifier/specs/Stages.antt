-- How far a session is at the verifier: which frames are logged where it waits, and why it stops there.
use Rattle.std.specs.Prelude.{◌≡◌, ◌⊎◌, ℕ, ◌+◌, ◌≤◌, List, [], ◌∷◌, ◌++◌, flat_map, length, Option, Some, None, Result, Ok, Err}
use Rattle.zk_model.specs.Program.{section_count}
use Rattle.zk_model.specs.Files.{IsVerifierFile}
use Rattle.zk_model.specs.Transcript.{Hello, Round, IsHello, IsHelloFor, HasForm, hello_frame, grant_frame, ask_frame, corrections_frame, challenge_frame, sums_frame, openings_frame, verdict_frame, refuse_frame, bytes_from, turn_bytes}
use Rattle.zk_model.specs.Frames.{Frame, hello, Allows, AreElements, AreSums, IsWhole, frame_spelling}
use Rattle.zk_model.specs.ServedVerifier.{challenge_coin}
use Rattle.zk_model.specs.View.{verdict_code, verdict_number}
use Rattle.zk_model.specs.declared.Expect.{Expect}
use Rattle.zk_model.specs.declared.Side.{Side}
use Rattle.zk_model.specs.declared.Side.TheVariants.{Prover, Verifier}
use Rattle.frame_link.specs.Lines.{LinkSnapshot}
use Rattle.frame_link.specs.declared.fault.LineFault.{LineFault}
use Rattle.frame_link.specs.declared.fault.LineFault.TheVariants as line
use Rattle.session_core.specs.Jobs.{VerifierJob, IsVerifierJob, granted_from, units_of_job}
use Rattle.session_core.specs.Judgements.{IsJudgement, session_transcript, verdict_in}
use Rattle.session_core.specs.Rounds.{AreServedRounds, round_turns}
use Rattle.session_core.specs.Cores.{VerifierStage, AreAsksSoFar, VerifierAnswers, VerifierRefuses, awaits_hello, owes_grant, awaits_asks, awaits_corrections, awaits_sums, awaits_openings, has_judged, has_refused, verifier_expects}
use Rattle.session_core.specs.declared.fault.VerifierFault.{VerifierFault}
use Rattle.session_core.specs.declared.judgement.Judgement.{Judgement}
use Rattle.session_driver.specs.Leaving.{ComesAt, GoesWell, IsLostBy, StopsShort, Tries}
use Rattle.zk_model.specs.declared.Span.{Span}
use Rattle.lease_store.specs.declared.grantor.GrantFault.{GrantFault}
use Rattle.session_verifier.specs.Outcomes.{hello_code, judgement_outcome, grant_outcome, grant_code, verifier_line_outcome, verifier_fault_outcome}
use Rattle.session_verifier.specs.declared.note.VerifierOutcome.{VerifierOutcome}
use Rattle.session_verifier.specs.declared.note.VerifierOutcome.TheVariants.{NoMemory}
use Rattle.session_pool.specs.Notes.{granted_by}

-- ---- the frames that are logged

-- a hello for the job's file and statement
pub record Greeting (job : VerifierJob) : Type 0 where
  pub hello : Hello
  pub fits : IsHelloFor job.task.file.id job.task.statement hello

-- it alone came
pub record IsGreeted (job : VerifierJob) (log : List (Side × ℕ)) : Type 0 where
  pub greeting : Greeting job
  pub bytes : log ≡ bytes_from Prover (hello_frame greeting.hello)

-- a frame is such a hello
pub record Greets (job : VerifierJob) (frame : Frame) : Type 0 where
  pub greeting : Greeting job
  pub is : frame ≡ hello greeting.hello

-- it, and the grant of the job's units from this one on
abbrev pub first_turn : (job : VerifierJob) → Greeting job → ℕ → List ℕ × List ℕ
first_turn job greeting start = (hello_frame greeting.hello, grant_frame (granted_from job start))

-- corrections, and the coin of the first unit
abbrev pub second_turn : VerifierJob → ℕ → List ℕ → List ℕ × List ℕ
second_turn job start d = (corrections_frame d, challenge_frame (challenge_coin job.task.file start))

-- sums and openings, and a verdict
abbrev pub last_turn : List (ℕ × ℕ) → List ℕ → ℕ → ℕ → List ℕ × List ℕ
last_turn both macs code number = (sums_frame both ++ openings_frame macs, verdict_frame code number)

-- What every job has: a file that is one, and few units.
pub record IsHeldJob (job : VerifierJob) : Type 0 where
  pub file : IsVerifierFile job.task.file
  pub is : IsVerifierJob job

-- a log from the grant of this unit on: after the first turn these turns are whole, and then the prover said this
pub record IsTurnsLog (job : VerifierJob) (start : ℕ) (turns : List (List ℕ × List ℕ)) (said : List ℕ) (log : List (Side × ℕ)) : Type 0 where
  pub within : start + units_of_job job ≤ job.task.file.params.total
  pub greeting : Greeting job
  pub spelled : log ≡ turn_bytes (first_turn job greeting start ∷ turns) ++ bytes_from Prover said

-- one in which the correlations are fixed: in kind extended by the round of all units with the file's replies, before those turns
pub record IsFixedLog (job : VerifierJob) (start : ℕ) (turns : List (List ℕ × List ℕ)) (said : List ℕ) (log : List (Side × ℕ)) : Type 0 where
  pub rounds : List Round
  pub served : AreServedRounds job.task.file (granted_from job start) rounds
  pub turned : IsTurnsLog job start (round_turns rounds ++ turns) said log
  pub open turned use *

-- a whole session with a grant from this unit on that was judged so: what the prover sent is as much as the statement wants, in range
pub record IsJudgedLog (job : VerifierJob) (start : ℕ) (judgement : Judgement) (log : List (Side × ℕ)) : Type 0 where
  pub corrections : List ℕ
  pub elements : AreElements job.task.statement.program.givens corrections
  pub sums : List (ℕ × ℕ)
  pub pairs : AreSums (section_count job.task.statement.program job.section_length) sums
  pub openings : List ℕ
  pub macs : AreElements (length job.task.statement.program.opened) openings
  pub fixed : IsFixedLog job start (second_turn job start corrections
      ∷ last_turn sums openings (verdict_code (verdict_in judgement)) (verdict_number (verdict_in judgement)) ∷ []) [] log
  pub open fixed use *
  pub judged : IsJudgement job.task
      (session_transcript job greeting.hello start rounds corrections sums openings (verdict_in judgement)) judgement

-- What is logged where a verifier waits: the frames that came, each turn with its answer; and how many came of the units' asks.
abbrev pub IsVerifierLogAt : VerifierJob → VerifierStage → List (Side × ℕ) → Type 0
IsVerifierLogAt job awaits_hello log = log ≡ []
IsVerifierLogAt job owes_grant log = IsGreeted job log
IsVerifierLogAt job (awaits_asks start asked) log = AreAsksSoFar job asked × IsTurnsLog job start [] (flat_map ask_frame asked) log
IsVerifierLogAt job (awaits_corrections start) log = IsFixedLog job start [] [] log
IsVerifierLogAt job (awaits_sums start d) log =
    AreElements job.task.statement.program.givens d × IsFixedLog job start (second_turn job start d ∷ []) [] log
IsVerifierLogAt job (awaits_openings start d both) log =
    AreElements job.task.statement.program.givens d
    × AreSums (section_count job.task.statement.program job.section_length) both
    × IsFixedLog job start (second_turn job start d ∷ []) (sums_frame both) log
IsVerifierLogAt job (has_judged start judgement) log = IsJudgedLog job start judgement log
IsVerifierLogAt job has_refused log = ⊥

-- ---- why it stops

-- bytes of the frame that is expected where the verifier waits came, and none past it
abbrev pub ComesThere : VerifierJob → VerifierStage → List (Side × ℕ) → Type 0
ComesThere job stage log = ComesAt (IsVerifierLogAt job) (verifier_expects job) Prover stage log

-- the verifier waits for a frame of a session whose grant begins here, or has judged it
abbrev pub IsBehind : ℕ → VerifierStage → Type 0
IsBehind start awaits_hello = ⊥
IsBehind start owes_grant = ⊥
IsBehind start (awaits_asks begun asked) = begun ≡ start
IsBehind start (awaits_corrections begun) = begun ≡ start
IsBehind start (awaits_sums begun d) = begun ≡ start
IsBehind start (awaits_openings begun d both) = begun ≡ start
IsBehind start (has_judged begun judgement) = begun ≡ start
IsBehind start has_refused = ⊥

-- these bytes are a frame that came where the verifier waits, and those are what it answers
pub record IsAnswer (job : VerifierJob) (stage : VerifierStage) (place : Expect) (rest answer : List ℕ) : Type 0 where
  pub frame : Frame
  pub allowed : Allows place frame
  pub came : rest ≡ frame_spelling frame
  pub frames : List Frame
  pub at_least_one : 1 ≤ length frames
  pub next : VerifierStage
  pub answers : VerifierAnswers job stage frame frames next
  pub answer_is : answer ≡ flat_map frame_spelling frames

-- Why a session stops after these bytes of the frame that is expected: they are no whole one; or they are, after the grant, and memory
-- was missing for its answer; or the one send of that was refused.
abbrev pub StopsAfter :
    VerifierJob → VerifierStage → List (Side × ℕ) → Expect → List ℕ → LineFault → LinkSnapshot → LinkSnapshot → Type 0
StopsAfter job stage log place rest fault first now =
    StopsShort Verifier log place rest fault first now
    ⊎ ((fault ≡ line.NoMemory) × ((start : ℕ) × IsBehind start stage) × ((frame : Frame) × IsWhole place rest frame) × GoesWell Verifier log first now)
    ⊎ ((answer : List ℕ) × IsAnswer job stage place rest answer × IsLostBy fault Verifier log answer first now)

-- a session that stopped so where the verifier waits
pub record IsStopped (job : VerifierJob) (stage : VerifierStage) (fault : LineFault) (first now : LinkSnapshot) : Type 0 where
  pub comes : ComesThere job stage now.log
  pub open comes use *
  pub why : StopsAfter job stage now.log place rest fault first now

-- after the grant that begins here
pub record VerifierStopsBehind (job : VerifierJob) (start : ℕ) (fault : LineFault) (first now : LinkSnapshot) : Type 0 where
  pub stage : VerifierStage
  pub behind : IsBehind start stage
  pub stopped : IsStopped job stage fault first now

-- ---- at the hello

-- these bytes are a whole hello
abbrev pub IsWholeHello : List ℕ → Type 0
IsWholeHello rest = (hello : Hello) × IsHello hello × (rest ≡ hello_frame hello)

-- after this hello a refusal of this code was sent once, in a grant's place
abbrev pub RefusesAfter : Hello → ℕ → LinkSnapshot → LinkSnapshot → Type 0
RefusesAfter said code first now = Tries Verifier (bytes_from Prover (hello_frame said)) (refuse_frame code) first now

-- a hello came that was not met, for this fault, and a refusal was sent
pub record IsTurnedAway (job : VerifierJob) (fault : VerifierFault) (first now : LinkSnapshot) : Type 0 where
  pub said : Hello
  pub is : IsHello said
  pub form : HasForm job.task.statement.kind said.public
  pub cause : VerifierRefuses job awaits_hello (hello said) fault
  pub refused : RefusesAfter said (hello_code fault) first now

-- after a hello for the statement a refusal of this code was sent
pub record IsRefusedGrant (job : VerifierJob) (code : ℕ) (first now : LinkSnapshot) : Type 0 where
  pub greeting : Greeting job
  pub refused : RefusesAfter greeting.hello code first now

-- after such a hello, the one send of the grant from this unit on was refused, and nothing followed
pub record IsGrantUnsent (job : VerifierJob) (start : ℕ) (fault : LineFault) (first now : LinkSnapshot) : Type 0 where
  pub greeting : Greeting job
  pub lost : IsLostBy fault Verifier (bytes_from Prover (hello_frame greeting.hello)) (grant_frame (granted_from job start)) first now

-- a session in which the verifier has judged: all that passed is logged, and nothing failed
pub record IsJudged (job : VerifierJob) (start : ℕ) (judgement : Judgement) (first now : LinkSnapshot) : Type 0 where
  pub log : IsVerifierLogAt job (has_judged start judgement) now.log
  pub well : GoesWell Verifier now.log first now

-- ---- what came of it

-- these are the job's units, and lie in its file
pub record AreUnits (job : VerifierJob) (span : Span) : Type 0 where
  pub units : span.end ≡ span.start + units_of_job job
  pub within : span.end ≤ job.task.file.params.total

-- How a session ended. The hello did not come; it was not met; units were refused. Or these were leased: memory was missing for their
-- grant; its send was refused; no frame came after it, or none was answered; all of it was judged.
pub data Ending : Type 0 where
  lacks_hello : LineFault → Ending
  turns_away : VerifierFault → Ending
  lacks_units : GrantFault → Ending
  lacks_grant : Span → Ending
  loses_grant : Span → LineFault → Ending
  stops_behind : Span → LineFault → Ending
  judges : Span → Judgement → Ending

-- what the one who leases units answered then, if it was asked
abbrev pub answer_at : Ending → Option (Result Span GrantFault)
answer_at (lacks_hello fault) = None
answer_at (turns_away fault) = None
answer_at (lacks_units fault) = Some (Err fault)
answer_at (lacks_grant span) = Some (Ok span)
answer_at (loses_grant span fault) = Some (Ok span)
answer_at (stops_behind span fault) = Some (Ok span)
answer_at (judges span judgement) = Some (Ok span)

-- and by which outcome it is noted
abbrev pub outcome_at : Ending → VerifierOutcome
outcome_at (lacks_hello fault) = verifier_line_outcome fault
outcome_at (turns_away fault) = verifier_fault_outcome fault
outcome_at (lacks_units fault) = grant_outcome fault
outcome_at (lacks_grant span) = NoMemory
outcome_at (loses_grant span fault) = verifier_line_outcome fault
outcome_at (stops_behind span fault) = verifier_line_outcome fault
outcome_at (judges span judgement) = judgement_outcome judgement

-- it ended so
abbrev pub HasEnding : VerifierJob → Ending → LinkSnapshot → LinkSnapshot → Type 0
HasEnding job (lacks_hello fault) first now = IsStopped job awaits_hello fault first now
HasEnding job (turns_away fault) first now = IsTurnedAway job fault first now
HasEnding job (lacks_units fault) first now = IsRefusedGrant job (grant_code fault) first now
HasEnding job (lacks_grant span) first now = AreUnits job span × IsRefusedGrant job 4 first now
HasEnding job (loses_grant span fault) first now = AreUnits job span × IsGrantUnsent job span.start fault first now
HasEnding job (stops_behind span fault) first now = AreUnits job span × VerifierStopsBehind job span.start fault first now
HasEnding job (judges span judgement) first now = AreUnits job span × IsJudged job span.start judgement first now

-- what came of a session
pub record IsCourse
    (job : VerifierJob)
    (answer : Option (Result Span GrantFault))
    (granted : Option Span)
    (outcome : VerifierOutcome)
    (first now : LinkSnapshot) : Type 0 where
  pub ending : Ending
  pub answer_is : answer ≡ answer_at ending
  pub granted_is : granted ≡ granted_by (answer_at ending)
  pub outcome_is : outcome ≡ outcome_at ending
  pub has : HasEnding job ending first now
