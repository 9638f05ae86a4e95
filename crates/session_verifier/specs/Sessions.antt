-- What a note of a session says of it, as one record.
use Rattle.std.specs.Prelude.{◌≡◌, ℕ, List, [], false, Option, Result}
use Rattle.zk_model.specs.Transcript.{sent_by}
use Rattle.zk_model.specs.declared.Side.{Side}
use Rattle.zk_model.specs.declared.Side.TheVariants.{Prover, Verifier}
use Rattle.zk_model.specs.declared.Span.{Span}
use Rattle.zk_port.specs.Doors.{IsFreshLink}
use Rattle.zk_port.specs.Links.{LinkState}
use Rattle.zk_port.specs.Logs.{put_before}
use Rattle.frame_link.specs.Lines.{snapshot}
use Rattle.lease_store.specs.declared.grantor.GrantFault.{GrantFault}
use Rattle.session_core.specs.Jobs.{VerifierJob, VerifierJobs, noted_job}
use Rattle.session_pool.specs.Notes.{IsOfStore, granted_by}
use Rattle.session_verifier.specs.Notes.{AnswersLease, JudgesRightly, AcceptsExactly, IsShown, SendsRightly, KeepsKeys, EndsBecause, LeasesBehindHello, IsTold, CountsFaults, ReceivesFew, TakesStatement, VerifierCompletes, CompletesForEach}
use Rattle.session_verifier.specs.declared.note.SessionNote.{SessionNote}
use Rattle.session_verifier.specs.declared.note.VerifierOutcome.{VerifierOutcome}
use Rattle.session_verifier.specs.declared.note.VerifierOutcome.TheVariants.{Accepted}

-- A session about the job over a link that was fresh, and now tells this, in which the one who leases units answered so, if it was
-- asked: which units were granted, that the cause of refused units is the outcome, and that a hello for the statement came before; that an outcome which judges is the verdict of the checks
-- on a whole session, and that an accepted log has no other; what acceptance shows; what the verifier sent; that its keys fit the
-- pairs of whatever prover; why the session ended; what the link tells beside the log; that what came is what it no longer has to come;
-- how often it failed; that it is ended; and that with an honest peer the session is accepted, unless memory was missing.
pub record IsVerifierSession
    (job : VerifierJob)
    (answer : Option (Result Span GrantFault))
    (granted : Option Span)
    (outcome : VerifierOutcome)
    (log : List (Side × ℕ))
    (link : LinkState) : Type 0 where
  pub granted_is : granted ≡ granted_by answer
  pub refused : AnswersLease answer outcome
  pub behind_hello : LeasesBehindHello job answer log
  pub verdict : JudgesRightly job granted outcome log
  pub accepted : AcceptsExactly job outcome log
  pub shown : outcome ≡ Accepted → IsShown job granted log
  pub sends : SendsRightly job granted outcome log
  pub related : KeepsKeys job log
  pub first : LinkState
  pub fresh : IsFreshLink first
  pub cause : EndsBecause job answer outcome (snapshot Verifier [] first) (snapshot Verifier log link)
  pub told : IsTold job granted outcome (snapshot Verifier [] first) (snapshot Verifier log link)
  pub came : first.to_come ≡ put_before (sent_by Prover log) link.to_come
  pub faults : CountsFaults outcome (snapshot Verifier [] first) (snapshot Verifier log link)
  pub receives : ReceivesFew (snapshot Verifier [] first) (snapshot Verifier log link)
  pub complete : VerifierCompletes job answer outcome (snapshot Verifier [] first) (snapshot Verifier log link)
  pub ended : link.is_open ≡ false

-- A note is one of a session in which that was the answer: about the statement that was taken, as its hello says; and with an honest
-- prover of whichever statement it is accepted, unless memory was missing.
pub record IsAnsweredNote {L : Type 0} (link_tells : L → LinkState) (jobs : VerifierJobs) (answer : Option (Result Span GrantFault))
    (note : SessionNote L) : Type 0 where
  pub statement : TakesStatement jobs note.statement answer note.outcome note.log
  pub session : IsVerifierSession (noted_job jobs note.statement) answer note.granted note.outcome note.log (link_tells note.link)
  pub complete : CompletesForEach jobs answer note.outcome (snapshot Verifier [] session.first)
      (snapshot Verifier note.log (link_tells note.link))

-- a note is one of a session over a store, whatever its answer was
abbrev pub IsVerifierNote : {L : Type 0} → (L → LinkState) → VerifierJobs → SessionNote L → Type 0
IsVerifierNote link_tells jobs note =
    (answer : Option (Result Span GrantFault)) × IsOfStore answer × IsAnsweredNote link_tells jobs answer note
