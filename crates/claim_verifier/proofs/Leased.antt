-- A session asks for its units once at most, and what it was granted is what it knows.
use Rattle.std.proofs.Common.{◌≡◌, ◌⊎◌, ℕ, ◌+◌, ◌≤◌, List, [], ◌∷◌, Option, Some, None, IfSome, Result, Ok, Err, MatchOption, refl, ap, sym, ◌∙◌, subst, inl, inr}
use Rattle.zk_model.specs.Files.{VerifierFile, IsVerifierFile}
use Rattle.zk_model.specs.Frames.{Frame, hello, grant, asks, replies, corrections, challenge, sums, openings, verdict, refuse, poly_sums, want, block, out}
use Rattle.zk_model.specs.Frames.{Allows}
use Rattle.zk_model.specs.Transcript.{Grant}
use Rattle.zk_model.specs.declared.Expect.{Expect}
use Rattle.zk_model.specs.declared.Expect.TheVariants as expect
use Rattle.zk_model.specs.declared.Side.TheVariants.{Verifier}
use Rattle.zk_model.specs.declared.Span.{Span}
use Rattle.frame_link.specs.Lines.{LinkSnapshot}
use Rattle.frame_link.specs.declared.fault.LineFault.{LineFault}
use Rattle.lease_store.specs.declared.grantor.GrantFault.{GrantFault}
use Rattle.session_driver.specs.declared.drive.Outcome.{Outcome}
use Rattle.session_driver.specs.declared.drive.Outcome.TheVariants as driven
use Rattle.session_laws.specs.Rounds.{RepliesAreInRange}
use Rattle.session_script.specs.Scripts.{EndsAccepted, Fits, Passes, Reached, ScriptLeaves, Stage, StopsAt, TurnsDown, AnswerFails, Rules, own_of, stage_of}
use Rattle.session_script.specs.declared.fault.EndFault.{EndFault}
use Rattle.session_script.specs.declared.fault.EndFault.TheVariants as end
use Rattle.session_script.proofs.Scripting.{reached_on}
use Rattle.session_verifier.specs.Serving.{Grants, Leases}
use Rattle.session_claim.specs.Claims.{Claim, HasPlaces}
use Rattle.session_claim.specs.Script.{first_places}
use Rattle.claim_verifier.specs.Hearing.{Heard, Known, Hears, GrantsUnits, known_of, nothing_heard, grant_from, IsUnheard, units_of, verifier_rules}
use Rattle.claim_verifier.specs.declared.fault.VoiceFault.{VoiceFault}
use Rattle.claim_verifier.specs.declared.fault.VoiceFault.TheVariants as fault
use Rattle.claim_verifier.proofs.AtPlaces.{grant_at}

-- no frame but a grant changes what is known to be granted
given_stays : (claim : Claim) (file : VerifierFile) (old : Heard) (frame : Frame) (new : Heard) → Hears claim file old frame new → new.given ≡ old.given
given_stays claim file old (hello said) new hears = ap (λ (h : Heard). h.given) hears.1
given_stays claim file old (asks said) new hears = ap (λ (h : Heard). h.given) hears.heard
given_stays claim file old (replies said) new hears = ap (λ (h : Heard). h.given) hears.2
given_stays claim file old (corrections elements) new hears = ap (λ (h : Heard). h.given) hears
given_stays claim file old (challenge element) new hears = ap (λ (h : Heard). h.given) hears.3
given_stays claim file old (sums both) new hears = ap (λ (h : Heard). h.given) hears
given_stays claim file old (openings macs) new hears = ap (λ (h : Heard). h.given) hears
given_stays claim file old (verdict code number) new hears = ap (λ (h : Heard). h.given) hears.heard
given_stays claim file old (grant given) new hears = absurd hears
given_stays claim file old (refuse code) new hears = absurd hears
given_stays claim file old (poly_sums elements) new hears = ap (λ (h : Heard). h.given) hears
given_stays claim file old (want said) new hears = absurd hears
given_stays claim file old (block given) new hears = absurd hears
given_stays claim file old (out said) new hears = absurd hears

-- only a grant's place allows a grant
grant_place : (place : Expect) (given : Grant) → Allows place (grant given) → place ≡ expect.Grant
grant_place expect.Grant given allowed = refl
grant_place expect.Hello given allowed = let no = allowed.1 in cc
grant_place expect.ShortHello given allowed = let no = allowed.1 in cc
grant_place (expect.Ask height trees left) given allowed = let no = allowed.1 in cc
grant_place (expect.Reply height trees left) given allowed = let no = allowed.1 in cc
grant_place (expect.Corrections count) given allowed = let no = allowed.1 in cc
grant_place expect.Challenge given allowed = let no = allowed.1 in cc
grant_place (expect.Sums sections) given allowed = let no = allowed.1 in cc
grant_place (expect.Openings count) given allowed = let no = allowed.1 in cc
grant_place expect.Verdict given allowed = let no = allowed.2 in cc
grant_place (expect.PolySums count) given allowed = let no = allowed.1 in cc
grant_place expect.PolyVerdict given allowed = let no = allowed.2 in cc
grant_place expect.Want given allowed = let no = allowed.1 in cc
grant_place expect.Block given (inl allowed) = let no = allowed.1 in cc
grant_place expect.Block given (inr allowed) = let no = allowed.1 in cc

module _ {R : Type 0} (grants : Grants R) (claim : Claim) (file : VerifierFile) (section_length : ℕ) (places : HasPlaces claim) (is_file : IsVerifierFile file)
    (in_range : RepliesAreInRange) (old : R) where
  -- units were leased, and they are what is known to be granted
  pub record IsLeased (known : Known R) : Type 0 where
    pub span : Span
    pub leased : Leases grants (units_of claim file section_length) (Ok span) old known.grantor
    pub counted : span.end ≡ span.start + units_of claim file section_length
    pub given : known.heard.given ≡ Some (grant_from claim file section_length span.start)

  -- none were asked for, or they were leased
  abbrev pub IsLent : Known R → Type 0
  IsLent known = ((known.grantor ≡ old) × (known.heard.given ≡ None)) ⊎ IsLeased known

  abbrev rules : Rules (Known R) VoiceFault
  rules = verifier_rules grants claim file section_length

  -- where nothing was heard yet, none were asked for
  unasked : (known : Known R) → IsUnheard grants claim file section_length known → IsLent known → known.grantor ≡ old
  unasked known unheard (inl none) = none.0
  unasked known unheard (inr leased) = let no : None ≡ Some (Ok leased.span) = sym unheard.unasked ∙ leased.leased.told in cc

  -- units are leased of the one who was there first
  leased_of : (count : ℕ) (answer : Result Span GrantFault) (mid new : R) → mid ≡ old → Leases grants count answer mid new → Leases grants count answer old new
  leased_of count answer mid new same leases = subst (λ r. Leases grants count answer r new) same leases

  stays : (one other : Known R) (frame : Frame) → Hears claim file one.heard frame other.heard × (other.grantor ≡ one.grantor) → IsLent one → IsLent other
  stays one other frame passes (inl none) = inl (passes.1 ∙ none.0, given_stays claim file one.heard frame other.heard passes.0 ∙ none.1)
  stays one other frame passes (inr leased) = inr (record {
    span = leased.span;
    leased = subst (λ r. Leases grants (units_of claim file section_length) (Ok leased.span) old r) (sym passes.1) leased.leased;
    counted = leased.counted;
    given = given_stays claim file one.heard frame other.heard passes.0 ∙ leased.given;
  })

  granted : (one other : Known R) (given : Grant) → GrantsUnits grants claim file section_length one given other → one.grantor ≡ old → IsLent other
  granted one other given units same = inr (record {
    span = units.span;
    leased = leased_of (units_of claim file section_length) (Ok units.span) one.grantor other.grantor same units.leased;
    counted = units.counted;
    given = ap (λ (h : Heard). h.given) units.heard ∙ ap Some units.given_is;
  })

  -- after one frame more
  lent_step : (one other : Stage (Known R)) (frame : Frame) → Reached rules one → Fits rules one frame other → IsLent one.known → IsLent other.known
  lent_step one other frame reached fits lent = by frame fits.allowed fits.passes
    where
      at_place : Reached rules (stage_of one.known (fits.place ∷ fits.places))
      at_place = subst (λ l. Reached rules (stage_of one.known l)) fits.next reached

      by : (said : Frame) → Allows fits.place said → rules.passes one.known said other.known → IsLent other.known
      by (grant given) allowed passes =
          let unheard = grant_at grants claim file section_length places is_file in_range one.known fits.place fits.places at_place (grant_place fits.place given allowed) in
          granted one.known other.known given passes (unasked one.known unheard lent)
      by (hello said) allowed passes = stays one.known other.known (hello said) passes lent
      by (asks said) allowed passes = stays one.known other.known (asks said) passes lent
      by (replies said) allowed passes = stays one.known other.known (replies said) passes lent
      by (corrections elements) allowed passes = stays one.known other.known (corrections elements) passes lent
      by (challenge element) allowed passes = stays one.known other.known (challenge element) passes lent
      by (sums both) allowed passes = stays one.known other.known (sums both) passes lent
      by (openings macs) allowed passes = stays one.known other.known (openings macs) passes lent
      by (verdict code number) allowed passes = stays one.known other.known (verdict code number) passes lent
      by (refuse code) allowed passes = stays one.known other.known (refuse code) passes lent
      by (poly_sums elements) allowed passes = stays one.known other.known (poly_sums elements) passes lent
      by (want said) allowed passes = stays one.known other.known (want said) passes lent
      by (block given) allowed passes = stays one.known other.known (block given) passes lent
      by (out said) allowed passes = stays one.known other.known (out said) passes lent

  pub lent_on : (one other : Stage (Known R)) (frames : List Frame) → Reached rules one → Passes rules one frames other → IsLent one.known → IsLent other.known
  lent_on one other [] reached passes lent = subst (λ (s : Stage (Known R)). IsLent s.known) (sym passes) lent
  lent_on one other (frame ∷ frames) reached passes lent =
      lent_on passes.0 other frames (reached_on rules one passes.0 (frame ∷ []) reached (passes.0, passes.1, refl)) passes.2
      (lent_step one passes.0 frame reached passes.1 lent)

  -- ---- how a session leaves the one who leases units

  -- it was not asked, or answered so
  abbrev pub IsAsked : R → Type 0
  IsAsked now = (now ≡ old) ⊎ ((answer : Result Span GrantFault) × Leases grants (units_of claim file section_length) answer old now)

  lent_is_asked : (known : Known R) → IsLent known → IsAsked known.grantor
  lent_is_asked known (inl none) = inl none.0
  lent_is_asked known (inr leased) = inr (Ok leased.span, leased.leased)

  same_asked : (known : Known R) (now : R) → now ≡ known.grantor → IsLent known → IsAsked now
  same_asked known now same lent = subst IsAsked (sym same) (lent_is_asked known lent)

  -- a frame was refused, or none was said
  refused_asked : (stage : Stage (Known R)) (frame : Frame) (cause : VoiceFault) (known : Known R) → IsLent stage.known → rules.refuses stage.known frame cause known
      → IsAsked known.grantor
  refused_asked stage frame (fault.BadHello differs) known lent refuses = same_asked stage.known known.grantor (ap (λ (k : Known R). k.grantor) refuses.3) lent
  refused_asked stage frame (fault.Grant cause) known lent refuses = absurd refuses
  refused_asked stage frame fault.NoMemory known lent refuses = same_asked stage.known known.grantor refuses lent

  own_next : (places : List Expect) (place : Expect) → own_of Verifier places ≡ Some place → (rest : List Expect) × (places ≡ place ∷ rest)
  own_next [] place is = let no : None ≡ Some place = is in cc
  own_next (first ∷ rest) place is = (rest, ap (λ p. p ∷ rest) (next_is first rest place is))
    where
      next_is : (first : Expect) (rest : List Expect) (place : Expect) → own_of Verifier (first ∷ rest) ≡ Some place → first ≡ place
      next_is expect.Hello rest place is = let no : None ≡ Some place = is in cc
      next_is expect.ShortHello rest place is = let no : None ≡ Some place = is in cc
      next_is expect.Grant rest place is = let e : Some expect.Grant ≡ Some place = is in cc
      next_is (expect.Ask height trees left) rest place is = let no : None ≡ Some place = is in cc
      next_is (expect.Reply height trees left) rest place is = let e : Some (expect.Reply height trees left) ≡ Some place = is in cc
      next_is (expect.Corrections count) rest place is = let no : None ≡ Some place = is in cc
      next_is expect.Challenge rest place is = let e : Some expect.Challenge ≡ Some place = is in cc
      next_is (expect.Sums sections) rest place is = let no : None ≡ Some place = is in cc
      next_is (expect.Openings count) rest place is = let no : None ≡ Some place = is in cc
      next_is expect.Verdict rest place is = let e : Some expect.Verdict ≡ Some place = is in cc
      next_is (expect.PolySums count) rest place is = let no : None ≡ Some place = is in cc
      next_is expect.PolyVerdict rest place is = let e : Some expect.PolyVerdict ≡ Some place = is in cc
      next_is expect.Want rest place is = let no : None ≡ Some place = is in cc
      next_is expect.Block rest place is = let e : Some expect.Block ≡ Some place = is in cc

  declined_asked : (stage : Stage (Known R)) (place : Expect) (cause : VoiceFault) (known : Known R) → Reached rules stage → own_of Verifier stage.left ≡ Some place
      → IsLent stage.known → rules.declines stage.known place cause known → IsAsked known.grantor
  declined_asked stage place (fault.BadHello differs) known reached own lent declines = absurd declines
  declined_asked stage place (fault.Grant cause) known reached own lent declines =
      let next = own_next stage.left place own in
      let unheard = grant_at grants claim file section_length places is_file in_range stage.known place next.0
      (subst (λ l. Reached rules (stage_of stage.known l)) next.1 reached) declines.0 in
      inr (Err cause, leased_of (units_of claim file section_length) (Err cause) stage.known.grantor known.grantor (unasked stage.known unheard lent) declines.1)
  declined_asked stage place fault.NoMemory known reached own lent declines = same_asked stage.known known.grantor declines lent

  fails_asked : (stage : Stage (Known R)) (frames : List Frame) (cause : EndFault VoiceFault) (known : Known R) → Reached rules stage → IsLent stage.known
      → AnswerFails Verifier rules stage frames cause known → IsAsked known.grantor
  fails_asked stage frames (end.OfVoice cause) known reached lent fails =
      declined_asked fails.stage fails.fails.0 cause known (reached_on rules stage fails.stage frames reached fails.passes) fails.fails.1
      (lent_on stage fails.stage frames reached fails.passes lent) fails.fails.2
  fails_asked stage frames end.NoMemory known reached lent fails =
      same_asked fails.stage.known known.grantor (ap (λ (k : Known R). k.grantor) fails.fails) (lent_on stage fails.stage frames reached fails.passes lent)

  turned_asked : (stage : Stage (Known R)) (frame : Frame) (cause : EndFault VoiceFault) (known : Known R) → Reached rules stage → IsLent stage.known
      → TurnsDown Verifier rules stage frame cause known → IsAsked known.grantor
  turned_asked stage frame cause known reached lent (inl (why, same, refuses)) = refused_asked stage frame why known lent refuses
  turned_asked stage frame cause known reached lent (inr (said, says, fails)) = fails_asked stage (frame ∷ said) cause known reached lent fails

  stops_asked : (frames : List Frame) (stage : Stage (Known R)) (known : Known R) (outcome : Outcome (EndFault VoiceFault)) (first now : LinkSnapshot)
      → Reached rules stage → IsLent stage.known → StopsAt rules Verifier [] frames stage known outcome first now → IsAsked known.grantor
  stops_asked frames stage known driven.Done first now reached lent stops = same_asked stage.known known.grantor (ap (λ (k : Known R). k.grantor) stops.same) lent
  stops_asked frames stage known (driven.Refused cause) first now reached lent stops = turned_asked stage stops.frame cause known reached lent stops.refused
  stops_asked frames stage known (driven.Cut cause) first now reached lent (inl lacks) =
      same_asked stage.known known.grantor (ap (λ (k : Known R). k.grantor) lacks.same) lent
  stops_asked frames stage known (driven.Cut cause) first now reached lent (inr (inl keeps)) =
      same_asked keeps.after.known known.grantor (ap (λ (k : Known R). k.grantor) keeps.same)
      (lent_on stage keeps.after (keeps.frame ∷ keeps.answer) reached keeps.answered.passes lent)
  stops_asked frames stage known (driven.Cut cause) first now reached lent (inr (inr keeps)) =
      same_asked stage.known known.grantor (ap (λ (k : Known R). k.grantor) keeps.same) lent

  module _ (new : R) (heard : Heard) (outcome : Outcome (EndFault VoiceFault)) (first now : LinkSnapshot)
      (unheard : IsUnheard grants claim file section_length (known_of nothing_heard old))
      (leaves : ScriptLeaves rules Verifier [] (stage_of (known_of nothing_heard old) (first_places claim)) (known_of heard new) outcome first now) where
    begun : Reached rules (stage_of (known_of nothing_heard old) (first_places claim))
    begun = record { start = known_of nothing_heard old; begins = unheard; frames = []; passed = refl }

    reached : Reached rules leaves.stage
    reached = reached_on rules (stage_of (known_of nothing_heard old) (first_places claim)) leaves.stage leaves.frames begun leaves.passed

    lent : IsLent leaves.stage.known
    lent = lent_on (stage_of (known_of nothing_heard old) (first_places claim)) leaves.stage leaves.frames begun leaves.passed (inl (refl, refl))

    -- it was asked once at most
    pub asked_once : IsAsked new
    asked_once = stops_asked leaves.frames leaves.stage (known_of heard new) outcome first now reached lent leaves.stops

-- what that makes of it
pub asked_moved : {R : Type 0} (grants : Grants R) (count : ℕ) (old new : R) → grants.answer old ≡ None
    → (new ≡ old) ⊎ ((answer : Result Span GrantFault) × Leases grants count answer old new)
    → MatchOption (grants.answer new) (new ≡ old) (λ answer. grants.moves old count answer new)
asked_moved grants count old new none (inl same) =
    subst (λ a. MatchOption a (new ≡ old) (λ answer. grants.moves old count answer new)) (sym (ap grants.answer same ∙ none)) same
asked_moved grants count old new none (inr (answer, leases)) =
    subst (λ a. MatchOption a (new ≡ old) (λ answer. grants.moves old count answer new)) (sym leases.told) leases.moves

pub asked_count : {R : Type 0} (grants : Grants R) (count : ℕ) (old new : R) → grants.answer old ≡ None
    → (new ≡ old) ⊎ ((answer : Result Span GrantFault) × Leases grants count answer old new)
    → IfSome (grants.answer new) (λ answer. grants.asked new ≡ Some count)
asked_count grants count old new none (inl same) =
    subst (λ a. IfSome a (λ answer. grants.asked new ≡ Some count)) (sym (ap grants.answer same ∙ none)) tt
asked_count grants count old new none (inr (answer, leases)) =
    subst (λ a. IfSome a (λ answer. grants.asked new ≡ Some count)) (sym leases.told) leases.asked
