-- What a prover's note says of its session, as one record.
use Rattle.std.specs.Prelude.{◌≡◌, ◌+◌, ◌≤◌, ℕ, List, [], length, false, Option}
use Rattle.zk_model.specs.Transcript.{sent_by}
use Rattle.zk_model.specs.declared.Side.{Side}
use Rattle.zk_model.specs.declared.Side.TheVariants.{Prover, Verifier}
use Rattle.zk_model.specs.declared.Span.{Span}
use Rattle.zk_port.specs.Doors.{IsFreshLink}
use Rattle.zk_port.specs.Links.{LinkState}
use Rattle.zk_port.specs.Logs.{put_before}
use Rattle.frame_link.specs.Lines.{snapshot}
use Rattle.session_core.specs.Jobs.{ProverJob}
use Rattle.session_prover.specs.Completing.{ProverCompletes}
use Rattle.session_prover.specs.Notes.{AnswersGrantPlace, AnswersVerdict, CountsOutcome, HasClaimedUnits, IsLogged, IsOutcome, IsRelated, SendsEach, SendsHonestly, SendsOnceClaimed}
use Rattle.session_prover.specs.Stages.{Claim}
use Rattle.session_prover.specs.declared.note.ProverNote.{ProverNote}
use Rattle.session_prover.specs.declared.note.ProverOutcome.{ProverOutcome}

-- A session about the job over a link that was fresh, and now tells this, in which units were claimed or refused so, if they were asked
-- for: which units the note has; why it ended; that a verdict, a grant and a claim that was refused are answered; that what was sent is
-- what an honest prover sends, and nothing past the greeting before the units are claimed; that the corrections fit the keys; what the
-- link tells beside the log; how often it was used and failed; that it is ended; and that with an honest verifier the session is
-- accepted, unless memory was missing.
pub record IsProverSession
    (job : ProverJob)
    (claim : Claim)
    (granted : Option Span)
    (outcome : ProverOutcome)
    (log : List (Side × ℕ))
    (link : LinkState) : Type 0 where
  pub first : LinkState
  pub fresh : IsFreshLink first
  pub granted_is : HasClaimedUnits job claim log granted
  pub cause : IsOutcome job claim log (snapshot Prover [] first) (snapshot Prover log link) outcome
  pub answers : AnswersGrantPlace job claim outcome log
  pub verdict : AnswersVerdict job outcome log
  pub honest : SendsHonestly job log outcome
  pub claimed : SendsOnceClaimed job claim log
  pub related : IsRelated job log
  pub told : IsLogged job claim outcome log (snapshot Prover [] first) (snapshot Prover log link)
  pub came : first.to_come ≡ put_before (sent_by Verifier log) link.to_come
  pub sends : SendsEach outcome log (snapshot Prover [] first) (snapshot Prover log link)
  pub receives : link.receives ≤ first.receives + length (sent_by Verifier log) + 1
  pub faults : CountsOutcome outcome first.faults link.faults
  pub ended : link.is_open ≡ false
  pub complete : ProverCompletes job claim log (snapshot Prover [] first) (snapshot Prover log link) outcome

-- a note is one of a session in which that was claimed
abbrev pub IsProverNote : {L : Type 0} → (L → LinkState) → ProverJob → Claim → ProverNote L → Type 0
IsProverNote link_tells job claim note = IsProverSession job claim note.granted note.outcome note.log (link_tells note.link)
