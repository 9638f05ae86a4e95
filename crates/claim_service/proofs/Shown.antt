-- What an accepted session about a claim shows, and why units were refused.
use Rattle.std.proofs.Common.{◌≡◌, ◌⊎◌, ◌∙◌, ◌+◌, ◌≤◌, ℕ, List, [], Option, Some, None, IfSome, Result, Ok, Err, inl, inr, refl, sym, ap, subst, arith}
use Rattle.zk_model.specs.Files.{VerifierFile, IsVerifierFile}
use Rattle.zk_model.specs.Frames.{Frame}
use Rattle.zk_model.specs.Transcript.{Grant}
use Rattle.zk_model.specs.declared.Side.TheVariants.{Verifier}
use Rattle.zk_model.specs.declared.Span.{Span}
use Rattle.zk_model.specs.declared.limits.TheConstants.{MAX_UNITS}
use Rattle.frame_link.specs.Lines.{LinkSnapshot}
use Rattle.frame_link.specs.declared.fault.LineFault.{LineFault}
use Rattle.frame_link.specs.declared.fault.LineFault.TheVariants as line
use Rattle.lease_store.specs.declared.LeaseFault.TheVariants as lease
use Rattle.lease_store.specs.declared.grantor.GrantFault.{GrantFault}
use Rattle.lease_store.specs.declared.grantor.GrantFault.TheVariants as grant
use Rattle.session_core.specs.declared.judgement.Judgement.{Judgement}
use Rattle.session_core.specs.declared.judgement.Judgement.TheVariants as judgement
use Rattle.session_driver.specs.declared.drive.Outcome.{Outcome}
use Rattle.session_driver.specs.declared.drive.Outcome.TheVariants as driven
use Rattle.session_laws.specs.Rounds.{RepliesAreInRange}
use Rattle.session_pool.specs.Notes.{granted_by}
use Rattle.session_script.specs.Scripts.{Rules, ScriptLeaves, Stage, TurnsDown, stage_of}
use Rattle.session_script.specs.declared.fault.EndFault.{EndFault}
use Rattle.session_script.specs.declared.fault.EndFault.TheVariants as end
use Rattle.session_claim.specs.Claims.{Claim, HasPlaces}
use Rattle.session_claim.specs.Script.{first_places}
use Rattle.session_verifier.specs.Outcomes.{grant_fault, grant_outcome, judgement_outcome, verifier_line_outcome}
use Rattle.session_verifier.specs.Serving.{Grants}
use Rattle.session_verifier.specs.declared.note.VerifierOutcome.{VerifierOutcome}
use Rattle.session_verifier.specs.declared.note.VerifierOutcome.TheVariants.{Accepted, RejectedSum, RejectedOpening, PeerEnded, BadFrame, BadHello, Exhausted, Device, Broken, NoBlock, Broker, Link, NoMemory}
use Rattle.claim_verifier.specs.Hearing.{Heard, Known, IsUnheard, VerifierRefuses, grant_from, known_of, nothing_heard, units_of, verifier_rules}
use Rattle.claim_verifier.specs.Sessions.{Answer, EndsAs, LeavesTold, VerifierLeaves, answer_alone}
use Rattle.claim_verifier.specs.declared.fault.VoiceFault.{VoiceFault}
use Rattle.claim_verifier.specs.declared.fault.VoiceFault.TheVariants as fault
use Rattle.claim_verifier.specs.declared.verify.SessionEnd.{SessionEnd}
use Rattle.claim_verifier.specs.declared.verify.SessionEnd.TheVariants.{Judged, Refused, Cut}
use Rattle.claim_verifier.proofs.AtPlaces.{some_same}
use Rattle.claim_verifier.proofs.Leased.{IsLent, lent_on}
use Rattle.claim_service.specs.ClaimNotes.{IsShownSession, end_outcome, fault_outcome, voice_outcome}

-- ---- only a session that was judged so is accepted

abbrev accepted_code : VerifierOutcome → ℕ
accepted_code Accepted = 1
accepted_code other = 0

not_accepted : (outcome : VerifierOutcome) → accepted_code outcome ≡ 0 → outcome ≡ Accepted → ⊥
not_accepted outcome none accepted = let no : 0 ≡ 1 = sym none ∙ ap accepted_code accepted in omega (arith, no)

grant_none : (cause : GrantFault) → accepted_code (grant_outcome cause) ≡ 0
grant_none (grant.Lease (lease.Exhausted at count total)) = refl
grant_none (grant.Lease lease.Device) = refl
grant_none (grant.Lease (lease.Broken first)) = refl
grant_none grant.NoMemory = refl
grant_none (grant.NoBlock wants) = refl
grant_none grant.Broker = refl

line_none : (cause : LineFault) → accepted_code (verifier_line_outcome cause) ≡ 0
line_none (line.PeerEnded at) = refl
line_none (line.BadFrame place) = refl
line_none line.Link = refl
line_none line.NoMemory = refl

fault_none : (cause : EndFault VoiceFault) → accepted_code (fault_outcome cause) ≡ 0
fault_none (end.OfVoice (fault.BadHello differs)) = refl
fault_none (end.OfVoice (fault.Grant cause)) = grant_none cause
fault_none (end.OfVoice fault.NoMemory) = refl
fault_none end.NoMemory = refl

judged_so : (found : Judgement) → judgement_outcome found ≡ Accepted → found ≡ judgement.Accepted
judged_so judgement.Accepted accepted = refl
judged_so (judgement.RejectedSum section left right) accepted = absurd (not_accepted (RejectedSum section left right) refl accepted)
judged_so (judgement.RejectedOpening output left right) accepted = absurd (not_accepted (RejectedOpening output left right) refl accepted)

pub ended_judged : (ended : SessionEnd) → end_outcome ended ≡ Accepted → ended ≡ Judged judgement.Accepted
ended_judged (Judged found) accepted = ap Judged (judged_so found accepted)
ended_judged (Refused cause) accepted = absurd (not_accepted (fault_outcome cause) (fault_none cause) accepted)
ended_judged (Cut cause) accepted = absurd (not_accepted (verifier_line_outcome cause) (line_none cause) accepted)

-- ---- what it shows

module _ (claim : Claim) (file : VerifierFile) (section_length : ℕ) (places : HasPlaces claim) (is_file : IsVerifierFile file)
    (in_range : RepliesAreInRange) (few : units_of claim file section_length ≤ MAX_UNITS) (answer : Answer) (ended : SessionEnd) (first now : LinkSnapshot) where
  abbrev alone : Grants Answer
  alone = answer_alone (units_of claim file section_length) file.params.total

  unheard : IsUnheard alone claim file section_length (known_of nothing_heard None)
  unheard = record { heard = refl; unasked = refl; total = omega arith; few = few; may = tt }

  abbrev rules : Rules (Known Answer) VoiceFault
  rules = verifier_rules alone claim file section_length

  -- what is known to be granted was leased
  pub record IsGrantLeased (given : Grant) : Type 0 where
    pub span : Span
    pub answered : answer ≡ Some (Ok span)
    pub counted : span.end ≡ span.start + units_of claim file section_length
    pub given_is : given ≡ grant_from claim file section_length span.start

  granted_so : (heard : Heard) (given : Grant) → heard.given ≡ Some given → IsLent alone claim file section_length places is_file in_range None (known_of heard answer)
      → IsGrantLeased given
  granted_so heard given known (inl none) = let no : None ≡ Some given = sym none.1 ∙ known in cc
  granted_so heard given known (inr leased) = record {
    span = leased.span;
    answered = leased.leased.told;
    counted = leased.counted;
    given_is = some_same given (grant_from claim file section_length leased.span.start) (sym known ∙ leased.given);
  }

  lent_last : (heard : Heard) → ScriptLeaves rules Verifier [] (stage_of (known_of nothing_heard None) (first_places claim)) (known_of heard answer) driven.Done first now
      → IsLent alone claim file section_length places is_file in_range None (known_of heard answer)
  lent_last heard leaves = subst (IsLent alone claim file section_length places is_file in_range None) (sym leaves.stops.same)
      (lent_on alone claim file section_length places is_file in_range None (stage_of (known_of nothing_heard None) (first_places claim)) leaves.stage
      leaves.frames (record { start = known_of nothing_heard None; begins = unheard; frames = []; passed = refl }) leaves.passed (inl (refl, refl)))

  module _ (left : VerifierLeaves alone claim file section_length None answer ended first now) where
    leaves_as : (outcome : Outcome (EndFault VoiceFault)) → left.outcome ≡ outcome
        → ScriptLeaves rules Verifier [] (stage_of (known_of nothing_heard None) (first_places claim)) (known_of left.heard answer) outcome first now
    leaves_as outcome is = subst (λ (o : Outcome (EndFault VoiceFault)). ScriptLeaves rules Verifier [] (stage_of (known_of nothing_heard None) (first_places claim))
        (known_of left.heard answer) o first now) is left.leaves

    ends_as : (other : SessionEnd) → ended ≡ other → EndsAs other left.heard left.outcome
    ends_as other is = subst (λ (e : SessionEnd). EndsAs e left.heard left.outcome) is left.ends

    shown_of : ended ≡ Judged judgement.Accepted → IsShownSession claim file section_length (granted_by answer) now.log
    shown_of is =
        let whole = left.whole judgement.Accepted is in
        let given = whole.session.setup.grant in
        let lent = lent_last left.heard (leaves_as driven.Done (ends_as (Judged judgement.Accepted) is).0) in
        let leased = granted_so left.heard given whole.granted lent in
        record {
          span = leased.span;
          leased = ap granted_by leased.answered;
          counted = leased.counted;
          session = whole.session;
          grant = leased.given_is;
          served = whole.served;
          accepted = whole.judgement_is;
          shows = whole.shows refl;
        }

    turned : (cause : GrantFault) (stage : Stage (Known Answer)) (frame : Frame)
        → TurnsDown Verifier rules stage frame (end.OfVoice (fault.Grant cause)) (known_of left.heard answer) → answer ≡ Some (Err cause)
    turned cause stage frame (inl (why, same, refuses)) =
        absurd (subst (λ (w : VoiceFault). VerifierRefuses alone claim file section_length stage.known frame w (known_of left.heard answer)) (sym (voice_is why same)) refuses)
      where
        voice_is : (why : VoiceFault) → end.OfVoice (fault.Grant cause) ≡ end.OfVoice why → fault.Grant cause ≡ why
        voice_is why same = cc
    turned cause stage frame (inr (said, says, fails)) = fails.fails.2.1.told

    refused_of : (cause : GrantFault) → ended ≡ Refused (end.OfVoice (fault.Grant cause)) → answer ≡ Some (Err cause)
    refused_of cause is =
        let down = leaves_as (driven.Refused (end.OfVoice (fault.Grant cause))) (ends_as (Refused (end.OfVoice (fault.Grant cause))) is) in
        turned cause down.stage down.stops.frame down.stops.refused

  pub shows_so : LeavesTold claim file section_length answer ended first now → end_outcome ended ≡ Accepted
      → IsShownSession claim file section_length (granted_by answer) now.log
  shows_so (inl unbegun) accepted = let no : Cut line.NoMemory ≡ Judged judgement.Accepted = sym unbegun.ended_is ∙ ended_judged ended accepted in cc
  shows_so (inr left) accepted = shown_of left (ended_judged ended accepted)

  -- ---- why units were refused

  refused_lease : (cause : GrantFault) → answer ≡ Some (Err cause) → IfSome (grant_fault (grant_outcome cause)) (λ why. answer ≡ Some (Err why))
  refused_lease (grant.Lease (lease.Exhausted at count total)) is = is
  refused_lease (grant.Lease lease.Device) is = is
  refused_lease (grant.Lease (lease.Broken first)) is = is
  refused_lease grant.NoMemory is = tt
  refused_lease (grant.NoBlock wants) is = is
  refused_lease grant.Broker is = is

  no_lease : (outcome : VerifierOutcome) → grant_fault outcome ≡ None → IfSome (grant_fault outcome) (λ why. answer ≡ Some (Err why))
  no_lease outcome none = subst (λ (f : Option GrantFault). IfSome f (λ why. answer ≡ Some (Err why))) (sym none) tt

  judged_lease : (found : Judgement) → grant_fault (judgement_outcome found) ≡ None
  judged_lease judgement.Accepted = refl
  judged_lease (judgement.RejectedSum section left right) = refl
  judged_lease (judgement.RejectedOpening output left right) = refl

  line_lease : (cause : LineFault) → grant_fault (verifier_line_outcome cause) ≡ None
  line_lease (line.PeerEnded at) = refl
  line_lease (line.BadFrame place) = refl
  line_lease line.Link = refl
  line_lease line.NoMemory = refl

  refused_end : (other : SessionEnd) → ended ≡ other → VerifierLeaves alone claim file section_length None answer ended first now
      → IfSome (grant_fault (end_outcome other)) (λ why. answer ≡ Some (Err why))
  refused_end (Judged found) is left = no_lease (judgement_outcome found) (judged_lease found)
  refused_end (Refused (end.OfVoice (fault.BadHello differs))) is left = tt
  refused_end (Refused (end.OfVoice (fault.Grant cause))) is left = refused_lease cause (refused_of left cause is)
  refused_end (Refused (end.OfVoice fault.NoMemory)) is left = tt
  refused_end (Refused end.NoMemory) is left = tt
  refused_end (Cut cause) is left = no_lease (verifier_line_outcome cause) (line_lease cause)

  pub refused_so : LeavesTold claim file section_length answer ended first now → IfSome (grant_fault (end_outcome ended)) (λ why. answer ≡ Some (Err why))
  refused_so (inl unbegun) = subst (λ (e : SessionEnd). IfSome (grant_fault (end_outcome e)) (λ why. answer ≡ Some (Err why))) (sym unbegun.ended_is) tt
  refused_so (inr left) = refused_end ended refl left
