-- What a prover of constraints knows in a session, and how a session is noted.
use Rattle.std.specs.Prelude.{◌≡◌, ℕ, List, [], Option, Some, Err, false}
use Rattle.zk_model.specs.Files.{ProverFile}
use Rattle.zk_model.specs.declared.Side.{Side}
use Rattle.zk_model.specs.declared.Side.TheVariants.{Prover}
use Rattle.zk_model.specs.declared.Span.{Span}
use Rattle.zk_port.specs.Doors.{IsFreshLink}
use Rattle.zk_port.specs.Links.{LinkState}
use Rattle.frame_link.specs.Lines.{snapshot}
use Rattle.poly_model.specs.Constraints.{Constraints}
use Rattle.claim_store.specs.declared.ClaimFault.{ClaimFault}
use Rattle.session_prover.specs.Notes.{granted_of}
use Rattle.session_prover.specs.Outcomes.{claim_outcome, prover_line_outcome, verdict_outcome}
use Rattle.session_prover.specs.Stages.{Claim}
use Rattle.session_prover.specs.declared.note.ProverOutcome.{ProverOutcome}
use Rattle.session_prover.specs.declared.note.ProverOutcome.TheVariants as outcome
use Rattle.session_script.specs.declared.fault.EndFault.{EndFault}
use Rattle.session_script.specs.declared.fault.EndFault.TheVariants.{OfVoice, NoMemory}
use Rattle.claim_prover.specs.Sessions.{LeavesTold}
use Rattle.claim_prover.specs.Telling.{Knowledge, knowledge_of}
use Rattle.claim_prover.specs.declared.fault.ProvingFault.{ProvingFault}
use Rattle.claim_prover.specs.declared.fault.ProvingFault.TheVariants as fault
use Rattle.claim_prover.specs.declared.prove.ProverEnd.{ProverEnd}
use Rattle.claim_prover.specs.declared.prove.ProverEnd.TheVariants.{Said, Refused, Cut}
use Rattle.poly_session.specs.PolyClaims.{poly_claim}
use Rattle.poly_session.specs.PolyWitnesses.{poly_hello, poly_replies}

-- what it knows: that values meet the constraints of a text with this digest
abbrev pub poly_knowledge : Constraints → List ℕ → List ℕ → Knowledge
poly_knowledge constraints digest values = knowledge_of (poly_claim constraints digest) (λ id. poly_hello id digest) values
    (λ pairs section_length challenge. poly_replies constraints values pairs challenge)

-- ---- outcomes

-- of a frame that was refused, or not answered
abbrev pub fault_outcome : ProvingFault → ProverOutcome
fault_outcome fault.BadGrant = outcome.BadGrant
fault_outcome (fault.PeerRefused code) = outcome.PeerRefused code
fault_outcome (fault.Claim cause) = claim_outcome cause
fault_outcome fault.NoMemory = outcome.NoMemory

abbrev pub stop_outcome : EndFault ProvingFault → ProverOutcome
stop_outcome (OfVoice fault) = fault_outcome fault
stop_outcome NoMemory = outcome.NoMemory

-- of a session that ended so
abbrev pub end_outcome : ProverEnd → ProverOutcome
end_outcome (Said code number) = verdict_outcome code number
end_outcome (Refused fault) = stop_outcome fault
end_outcome (Cut fault) = prover_line_outcome fault

-- ---- notes

-- A session of a prover that knows this, over its file and a link that was fresh, and now tells this, in which units were claimed or
-- refused so, if they were asked for: what was said and heard, and how it stopped; its outcome; which units the note has; that it stopped by
-- a claim that was refused exactly where that was answered; and that the stream is ended.
pub record IsClaimSession (knows : Knowledge) (file : ProverFile) (claim : Claim) (granted : Option Span) (outcome : ProverOutcome)
    (log : List (Side × ℕ)) (link : LinkState) : Type 0 where
  pub first : LinkState
  pub fresh : IsFreshLink first
  pub stop : ProverEnd
  pub leaves : LeavesTold knows file claim stop (snapshot Prover [] first) (snapshot Prover log link)
  pub outcome_is : outcome ≡ end_outcome stop
  pub granted_is : granted ≡ granted_of claim.answer
  pub refused : (cause : ClaimFault) → stop ≡ Refused (OfVoice (fault.Claim cause)) → claim.answer ≡ Some (Err cause)
  pub refusal : (cause : ClaimFault) → claim.answer ≡ Some (Err cause) → stop ≡ Refused (OfVoice (fault.Claim cause))
  pub ended : link.is_open ≡ false
