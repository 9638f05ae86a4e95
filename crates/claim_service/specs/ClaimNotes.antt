-- What a note of a verifier's session about a claim says.
use Rattle.std.specs.Prelude.{◌≡◌, ◌+◌, ℕ, List, [], false, Option, Some, None}
use Rattle.zk_model.specs.Files.{VerifierFile}
use Rattle.zk_model.specs.declared.Side.{Side}
use Rattle.zk_model.specs.declared.Side.TheVariants.{Verifier}
use Rattle.zk_model.specs.declared.Span.{Span}
use Rattle.zk_port.specs.Doors.{IsFreshLink}
use Rattle.zk_port.specs.Links.{LinkState}
use Rattle.frame_link.specs.Lines.{snapshot}
use Rattle.session_core.specs.declared.judgement.Judgement.TheVariants as judgement
use Rattle.session_pool.specs.Notes.{granted_by}
use Rattle.session_script.specs.Scripts.{EndsAccepted}
use Rattle.session_script.specs.declared.fault.EndFault.{EndFault}
use Rattle.session_script.specs.declared.fault.EndFault.TheVariants as end
use Rattle.session_claim.specs.Claims.{Claim}
use Rattle.session_claim.specs.Script.{claim_behind, first_places}
use Rattle.session_verifier.specs.Outcomes.{grant_outcome, judgement_outcome, verifier_line_outcome}
use Rattle.session_verifier.specs.declared.note.SessionNote.{SessionNote}
use Rattle.session_verifier.specs.declared.note.VerifierOutcome.{VerifierOutcome}
use Rattle.session_verifier.specs.declared.note.VerifierOutcome.TheVariants.{Accepted, BadHello, NoMemory}
use Rattle.claim_verifier.specs.Hearing.{grant_from, units_of}
use Rattle.claim_verifier.specs.Served.{ClaimSession, IsClaimServed, ShowsToAll}
use Rattle.claim_verifier.specs.Sessions.{Answer, LeavesTold}
use Rattle.claim_verifier.specs.declared.fault.VoiceFault.{VoiceFault}
use Rattle.claim_verifier.specs.declared.fault.VoiceFault.TheVariants as fault
use Rattle.claim_verifier.specs.declared.verify.SessionEnd.{SessionEnd}
use Rattle.claim_verifier.specs.declared.verify.SessionEnd.TheVariants.{Judged, Refused, Cut}

-- how a session ended, where its voice refused a frame, or said none
abbrev pub voice_outcome : VoiceFault → VerifierOutcome
voice_outcome (fault.BadHello differs) = BadHello differs
voice_outcome (fault.Grant cause) = grant_outcome cause
voice_outcome fault.NoMemory = NoMemory

abbrev pub fault_outcome : EndFault VoiceFault → VerifierOutcome
fault_outcome (end.OfVoice cause) = voice_outcome cause
fault_outcome end.NoMemory = NoMemory

-- how it ended
abbrev pub end_outcome : SessionEnd → VerifierOutcome
end_outcome (Judged found) = judgement_outcome found
end_outcome (Refused cause) = fault_outcome cause
end_outcome (Cut cause) = verifier_line_outcome cause

-- the number of the claim, 0, once units were asked for
abbrev pub number_asked : Answer → Option ℕ
number_asked None = None
number_asked (Some answer) = Some 0

-- What an accepted session shows. Units were leased, as many as a session takes. The log is that of a whole session that the verifier leads
-- about the claim, with a grant of these units, and its check holds. And for every prover's file that is dealt with the verifier's, the pairs
-- that it sees in the session show what the claim says.
pub record IsShownSession (claim : Claim) (file : VerifierFile) (section_length : ℕ) (granted : Option Span) (log : List (Side × ℕ)) : Type 0 where
  pub span : Span
  pub leased : granted ≡ Some span
  pub counted : span.end ≡ span.start + units_of claim file section_length
  pub session : ClaimSession
  pub grant : session.setup.grant ≡ grant_from claim file section_length span.start
  pub served : IsClaimServed claim file section_length session log
  pub accepted : session.judgement ≡ judgement.Accepted
  pub shows : ShowsToAll claim file session

-- A session about the claim was led over a link that was fresh, in which units were asked for and this was answered, if they were; it left
-- this, by the answer alone; the outcome is how it ended, and that of an accepted log is no other; the link is ended; and what acceptance
-- shows.
pub record IsClaimNote {L : Type 0} (link_tells : L → LinkState) (claim : Claim) (file : VerifierFile) (section_length : ℕ) (answer : Answer)
    (note : SessionNote L) : Type 0 where
  pub statement : note.statement ≡ number_asked answer
  pub granted_is : note.granted ≡ granted_by answer
  pub first : LinkState
  pub fresh : IsFreshLink first
  pub ended : SessionEnd
  pub leaves : LeavesTold claim file section_length answer ended (snapshot Verifier [] first) (snapshot Verifier note.log (link_tells note.link))
  pub outcome : note.outcome ≡ end_outcome ended
  pub exact : EndsAccepted (claim_behind file.params claim) (first_places claim) note.log → note.outcome ≡ Accepted
  pub closed : (link_tells note.link).is_open ≡ false
  pub shown : note.outcome ≡ Accepted → IsShownSession claim file section_length note.granted note.log
