-- What became of the one who claims units for a session.
use Rattle.std.proofs.Common.{◌≡◌, ◌⊎◌, ◌≤◌, ℕ, inl, inr, Option, Some, None, Result, Ok, Err, List, [], ◌∷◌, refl, sym, ◌∙◌, ap, subst}
use Rattle.std.specs.Prelude.{MatchOption, IsSomeAnd}
use Rattle.zk_model.specs.Files.{ProverFile, IsProverFile}
use Rattle.zk_model.specs.Frames.{Frame, hello, grant, asks, replies, corrections, challenge, sums, openings, poly_sums, verdict, refuse, want, block, out, Allows}
use Rattle.zk_model.specs.Transcript.{Grant}
use Rattle.zk_model.specs.View.{span_of}
use Rattle.zk_model.specs.declared.Expect.{Expect}
use Rattle.zk_model.specs.declared.Expect.TheVariants as expect
use Rattle.zk_model.specs.declared.Side.TheVariants.{Prover}
use Rattle.zk_model.specs.declared.Span.{Span}
use Rattle.claim_store.specs.declared.ClaimFault.{ClaimFault}
use Rattle.frame_link.specs.Lines.{LinkSnapshot}
use Rattle.session_driver.specs.declared.drive.Outcome.{Outcome}
use Rattle.session_driver.specs.declared.drive.Outcome.TheVariants.{Done, Refused, Cut}
use Rattle.session_laws.specs.Rounds.{AsksAreInRange}
use Rattle.session_prover.specs.Stages.{ClaimantTells, Claimed}
use Rattle.session_claim.specs.Claims.{HasPlaces}
use Rattle.session_script.specs.Scripts.{next_of, Rules, Stage, stage_of, Fits, Passes, Reached, FailsThere, TurnsDown, StopsAt, ScriptLeaves}
use Rattle.session_script.specs.declared.fault.EndFault.{EndFault}
use Rattle.session_script.specs.declared.fault.EndFault.TheVariants.{OfVoice, NoMemory}
use Rattle.session_script.proofs.Scripting.{next_front, reached_on}
use Rattle.claim_prover.specs.Sessions.{ProverLeaves, IsUnbegun, EndsAs}
use Rattle.claim_prover.specs.Telling.{Knowledge, Told, Known, ProverPasses, ProverRefuses, ProverDeclines, RefusesGranted, nothing_told, known_of, prover_rules}
use Rattle.claim_prover.specs.declared.fault.ProvingFault.{ProvingFault}
use Rattle.claim_prover.specs.declared.fault.ProvingFault.TheVariants.{BadGrant, PeerRefused}
use Rattle.claim_prover.specs.declared.fault.ProvingFault.TheVariants as fault
use Rattle.claim_prover.specs.declared.prove.ProverEnd.{ProverEnd}
use Rattle.claim_prover.specs.declared.prove.ProverEnd.TheVariants as ended
use Rattle.claim_prover.proofs.AtPlaces.{grant_at}

-- a grant stands in its own place alone
grant_place : (place : Expect) (given : Grant) → Allows place (grant given) → place ≡ expect.Grant
grant_place expect.Grant given allowed = refl
grant_place expect.Hello given allowed = let is = allowed.1 in cc
grant_place expect.ShortHello given allowed = let is = allowed.1 in cc
grant_place (expect.Ask height trees left) given allowed = let is = allowed.1 in cc
grant_place (expect.Reply height trees left) given allowed = let is = allowed.1 in cc
grant_place (expect.Corrections count) given allowed = let is = allowed.1 in cc
grant_place expect.Challenge given allowed = let is = allowed.1 in cc
grant_place (expect.Sums sections) given allowed = let is = allowed.1 in cc
grant_place (expect.Openings count) given allowed = let is = allowed.1 in cc
grant_place expect.Verdict given allowed = let is = allowed.2 in cc
grant_place (expect.PolySums count) given allowed = let is = allowed.1 in cc
grant_place expect.PolyVerdict given allowed = let is = allowed.2 in cc
grant_place expect.Want given allowed = let is = allowed.1 in cc
grant_place expect.Block given (inl allowed) = let is = allowed.1 in cc
grant_place expect.Block given (inr allowed) = let is = allowed.1 in cc

none_is_some : {A : Type 0} {x : A} → None ≡ Some x → ⊥
none_is_some is = cc

ok_is_err : {span : Span} {cause : ClaimFault} → ◌≡◌ {A = Option (Result Span ClaimFault)} (Some (Ok span)) (Some (Err cause)) → ⊥
ok_is_err is = cc

same_err : {one other : ClaimFault} → ◌≡◌ {A = Option (Result Span ClaimFault)} (Some (Err one)) (Some (Err other)) → one ≡ other
same_err is = cc

-- a frame that passes is a grant whose units are claimed, or leaves the claimant as it is
passes_claimant : {O : Type 0} (claims : ClaimantTells O) (knows : Knowledge) (file : ProverFile) (old : Known O) (frame : Frame) (new : Known O)
    → ProverPasses claims knows file old frame new
    → (new.claimant ≡ old.claimant) ⊎ ((given : Grant) × (frame ≡ grant given) × Claimed claims given (Ok (span_of given)) old.claimant new.claimant)
passes_claimant claims knows file old (grant given) new passes = inr (given, refl, passes.takes.claimed)
passes_claimant claims knows file old (hello said) new passes = inl passes.1
passes_claimant claims knows file old (asks said) new passes = inl passes.1
passes_claimant claims knows file old (replies said) new passes = inl passes.1
passes_claimant claims knows file old (corrections elements) new passes = inl passes.1
passes_claimant claims knows file old (challenge element) new passes = inl passes.1
passes_claimant claims knows file old (sums both) new passes = inl passes.1
passes_claimant claims knows file old (openings macs) new passes = inl passes.1
passes_claimant claims knows file old (poly_sums elements) new passes = inl passes.1
passes_claimant claims knows file old (verdict code number) new passes = inl passes.1
passes_claimant claims knows file old (refuse code) new passes = inl passes.1
passes_claimant claims knows file old (want said) new passes = inl passes.1
passes_claimant claims knows file old (block given) new passes = inl passes.1
passes_claimant claims knows file old (out said) new passes = inl passes.1

-- it was not asked; or it was for the units of a grant, and claimed them
abbrev pub IsTaken : {O : Type 0} → ClaimantTells O → O → O → Type 0
IsTaken claims old now = (now ≡ old) ⊎ ((given : Grant) × Claimed claims given (Ok (span_of given)) old now)

-- or it refused, which ended the session
abbrev pub IsTakenAt : {O : Type 0} → ClaimantTells O → O → Outcome (EndFault ProvingFault) → O → Type 0
IsTakenAt claims old outcome now = IsTaken claims old now
    ⊎ ((given : Grant) × (cause : ClaimFault) × (outcome ≡ Refused (OfVoice (fault.Claim cause))) × Claimed claims given (Err cause) old now)

abbrev pub IsTakenBy : {O : Type 0} → ClaimantTells O → O → ProverEnd → O → Type 0
IsTakenBy claims old end now = IsTaken claims old now
    ⊎ ((given : Grant) × (cause : ClaimFault) × (end ≡ ended.Refused (OfVoice (fault.Claim cause))) × Claimed claims given (Err cause) old now)

-- as its script says it
end_of : (end : ProverEnd) (told : Told) (outcome : Outcome (EndFault ProvingFault)) (why : EndFault ProvingFault) → EndsAs end told outcome
    → outcome ≡ Refused why → end ≡ ended.Refused why
end_of (ended.Said code number) told outcome why ends is = let e : Done ≡ Refused why = sym ends.0 ∙ is in cc
end_of (ended.Refused fault) told outcome why ends is = let e : Refused fault ≡ Refused why = sym ends ∙ is in cc
end_of (ended.Cut fault) told outcome why ends is = let e : Cut fault ≡ Refused why = sym ends ∙ is in cc

module _ {O : Type 0} (claims : ClaimantTells O) (knows : Knowledge) (file : ProverFile) (places : HasPlaces knows.claim) (is_file : IsProverFile file)
    (in_range : AsksAreInRange) (old : O) where
  abbrev rules : Rules (Known O) ProvingFault
  rules = prover_rules claims knows file

  -- where a grant comes, nothing was claimed yet
  asked_first : (known : Known O) (place : Expect) (rest : List Expect) → Reached rules (stage_of known (place ∷ rest)) → (given : Grant) → Allows place (grant given)
      → (answer : Result Span ClaimFault) (now : O) → Claimed claims given answer known.claimant now → IsTaken claims old known.claimant → Claimed claims given answer old now
  asked_first known place rest reached given allowed answer now claimed (inl same) = subst (λ (c : O). Claimed claims given answer c now) same claimed
  asked_first known place rest reached given allowed answer now claimed (inr (first, was)) =
      absurd (none_is_some (sym (grant_at claims knows file places is_file in_range known place rest reached (grant_place place given allowed)).unasked ∙ was.told))

  at_front : (stage : Stage (Known O)) (place : Expect) (rest : List Expect) → stage.left ≡ place ∷ rest → Reached rules stage
      → Reached rules (stage_of stage.known (place ∷ rest))
  at_front stage place rest is reached = subst (λ (l : List Expect). Reached rules (stage_of stage.known l)) is reached

  stays : (before now : O) → now ≡ before → IsTaken claims old before → IsTaken claims old now
  stays before now same was = subst (IsTaken claims old) (sym same) was

  taken_on : (stage new : Stage (Known O)) (frame : Frame) → Reached rules stage → Fits rules stage frame new → IsTaken claims old stage.known.claimant
      → IsTaken claims old new.known.claimant
  taken_on stage new frame reached fits was = by (passes_claimant claims knows file stage.known frame new.known fits.passes)
    where
      by : (new.known.claimant ≡ stage.known.claimant) ⊎ ((given : Grant) × (frame ≡ grant given) × Claimed claims given (Ok (span_of given)) stage.known.claimant new.known.claimant)
          → IsTaken claims old new.known.claimant
      by (inl same) = stays stage.known.claimant new.known.claimant same was
      by (inr (given, is, claimed)) = inr (
        given,
        asked_first stage.known fits.place fits.places (at_front stage fits.place fits.places fits.next reached) given (subst (Allows fits.place) is fits.allowed)
            (Ok (span_of given)) new.known.claimant claimed was,
      )

  taken_after : (stage new : Stage (Known O)) (frames : List Frame) → Reached rules stage → Passes rules stage frames new → IsTaken claims old stage.known.claimant
      → IsTaken claims old new.known.claimant
  taken_after stage new [] reached passes was = subst (λ (s : Stage (Known O)). IsTaken claims old s.known.claimant) (sym passes) was
  taken_after stage new (frame ∷ frames) reached passes was =
      taken_after passes.0 new frames (reached_on rules stage passes.0 (frame ∷ []) reached (passes.0, passes.1, refl)) passes.2
      (taken_on stage passes.0 frame reached passes.1 was)

  -- ---- where it stops

  taken_refused : (known now : Known O) (place : Expect) (rest : List Expect) → Reached rules (stage_of known (place ∷ rest)) → (frame : Frame) → Allows place frame
      → (cause : ProvingFault) → ProverRefuses claims knows file known frame cause now → IsTaken claims old known.claimant
      → IsTakenAt claims old (Refused (OfVoice cause)) now.claimant
  taken_refused known now place rest reached frame allowed BadGrant refuses was = inl (stays known.claimant now.claimant refuses.refuses.1 was)
  taken_refused known now place rest reached frame allowed (PeerRefused code) refuses was =
      inl (stays known.claimant now.claimant (ap (λ (k : Known O). k.claimant) refuses.1) was)
  taken_refused known now place rest reached frame allowed (fault.Claim cause) refuses was = inr (
    refuses.given,
    cause,
    refl,
    asked_first known place rest reached refuses.given (subst (Allows place) refuses.is allowed) (Err cause) now.claimant refuses.refuses.1 was,
  )
  taken_refused known now place rest reached frame allowed fault.NoMemory (inl same) was = inl (stays known.claimant now.claimant same was)
  taken_refused known now place rest reached frame allowed fault.NoMemory (inr refuses) was = inl (inr (
    refuses.given,
    asked_first known place rest reached refuses.given (subst (Allows place) refuses.is allowed) (Ok (span_of refuses.given)) now.claimant refuses.refuses.claimed was,
  ))

  declined : (known now : Known O) (place : Expect) (cause : ProvingFault) → ProverDeclines claims knows file known place cause now → now.claimant ≡ known.claimant
  declined known now place BadGrant declines = absurd declines
  declined known now place (PeerRefused code) declines = absurd declines
  declined known now place (fault.Claim cause) declines = absurd declines
  declined known now place fault.NoMemory declines = declines

  failed : (stage : Stage (Known O)) (why : EndFault ProvingFault) (now : Known O) → FailsThere Prover rules stage why now → now.claimant ≡ stage.known.claimant
  failed stage (OfVoice cause) now fails = declined stage.known now fails.0 cause fails.2
  failed stage NoMemory now fails = ap (λ (k : Known O). k.claimant) fails

  taken_down : (stage : Stage (Known O)) (now : Known O) (place : Expect) → next_of stage.left ≡ Some place → Reached rules stage → (frame : Frame) → Allows place frame
      → (why : EndFault ProvingFault) → TurnsDown Prover rules stage frame why now → IsTaken claims old stage.known.claimant → IsTakenAt claims old (Refused why) now.claimant
  taken_down stage now place next reached frame allowed why (inl (cause, is, refuses)) was =
      subst (λ (w : EndFault ProvingFault). IsTakenAt claims old (Refused w) now.claimant) (sym is)
      (taken_refused stage.known now place _ (at_front stage place _ (next_front stage.left place next) reached) frame allowed cause refuses was)
  taken_down stage now place next reached frame allowed why (inr (said, says, fails)) was =
      inl (stays fails.stage.known.claimant now.claimant (failed fails.stage why now fails.fails) (taken_after stage fails.stage (frame ∷ said) reached fails.passes was))

  taken_stop : (greeting frames : List Frame) (stage : Stage (Known O)) (now : Known O) (outcome : Outcome (EndFault ProvingFault)) (first last : LinkSnapshot)
      → Reached rules stage → StopsAt rules Prover greeting frames stage now outcome first last → IsTaken claims old stage.known.claimant
      → IsTakenAt claims old outcome now.claimant
  taken_stop greeting frames stage now Done first last reached over was = inl (stays stage.known.claimant now.claimant (ap (λ (k : Known O). k.claimant) over.same) was)
  taken_stop greeting frames stage now (Refused why) first last reached down was =
      taken_down stage now down.place down.next reached down.frame down.allowed why down.refused was
  taken_stop greeting frames stage now (Cut why) first last reached (inl lacks) was =
      inl (stays stage.known.claimant now.claimant (ap (λ (k : Known O). k.claimant) lacks.same) was)
  taken_stop greeting frames stage now (Cut why) first last reached (inr (inl kept)) was =
      inl (stays kept.after.known.claimant now.claimant (ap (λ (k : Known O). k.claimant) kept.same)
      (taken_after stage kept.after (kept.frame ∷ kept.answer) reached kept.answered.passes was))
  taken_stop greeting frames stage now (Cut why) first last reached (inr (inr kept)) was =
      inl (stays stage.known.claimant now.claimant (ap (λ (k : Known O). k.claimant) kept.same) was)

  module _ (once : claims.answer old ≡ None) (within : claims.total old ≤ file.params.total) (now : O) (end : ProverEnd) (first last : LinkSnapshot) where
    begun : Reached rules (stage_of (known_of nothing_told old) (expect.Grant ∷ []))
    begun = record {
      start = known_of nothing_told old;
      begins = record { told = refl; unasked = once; total = within };
      frames = [];
      passed = refl;
    }

    taken_end : (told : Told) (outcome : Outcome (EndFault ProvingFault)) → EndsAs end told outcome → IsTakenAt claims old outcome now → IsTakenBy claims old end now
    taken_end told outcome ends (inl taken) = inl taken
    taken_end told outcome ends (inr (given, cause, is, claimed)) = inr (given, cause, end_of end told outcome (OfVoice (fault.Claim cause)) ends is, claimed)

    taken_in : IsUnbegun old now end first last ⊎ ProverLeaves claims knows file old now end first last → IsTakenBy claims old end now
    taken_in (inl unbegun) = inl (inl unbegun.claimant)
    taken_in (inr left) =
        taken_end left.told left.outcome left.ends
        (taken_stop (hello (knows.greeting file.id) ∷ []) left.leaves.frames left.leaves.stage (known_of left.told now) left.outcome first last
        (reached_on rules (stage_of (known_of nothing_told old) (expect.Grant ∷ [])) left.leaves.stage left.leaves.frames begun left.leaves.passed) left.leaves.stops
        (taken_after (stage_of (known_of nothing_told old) (expect.Grant ∷ [])) left.leaves.stage left.leaves.frames begun left.leaves.passed (inl refl)))

    moved_to : (given : Grant) (answer : Result Span ClaimFault) → Claimed claims given answer old now
        → MatchOption (claims.answer now) (now ≡ old) (λ answer. IsSomeAnd (claims.asked now) (λ units. claims.moves old units.0 units.1 answer now))
    moved_to given answer claimed =
        subst (λ (a : Option (Result Span ClaimFault)). MatchOption a (now ≡ old) (λ answer. IsSomeAnd (claims.asked now) (λ units. claims.moves old units.0 units.1 answer now)))
        (sym claimed.told)
        (subst (λ (u : Option (ℕ × ℕ)). IsSomeAnd u (λ units. claims.moves old units.0 units.1 answer now)) (sym claimed.asked) claimed.moves)

    moved_by : IsTakenBy claims old end now
        → MatchOption (claims.answer now) (now ≡ old) (λ answer. IsSomeAnd (claims.asked now) (λ units. claims.moves old units.0 units.1 answer now))
    moved_by (inl (inl same)) =
        subst (λ (a : Option (Result Span ClaimFault)). MatchOption a (now ≡ old) (λ answer. IsSomeAnd (claims.asked now) (λ units. claims.moves old units.0 units.1 answer now)))
        (sym (ap claims.answer same ∙ once)) same
    moved_by (inl (inr (given, claimed))) = moved_to given (Ok (span_of given)) claimed
    moved_by (inr (given, cause, is, claimed)) = moved_to given (Err cause) claimed

    pub moved_so : IsUnbegun old now end first last ⊎ ProverLeaves claims knows file old now end first last
        → MatchOption (claims.answer now) (now ≡ old) (λ answer. IsSomeAnd (claims.asked now) (λ units. claims.moves old units.0 units.1 answer now))
    moved_so left = moved_by (taken_in left)

    -- a claim that was refused ends the session
    ends_by : (cause : ClaimFault) → claims.answer now ≡ Some (Err cause) → IsTakenBy claims old end now → end ≡ ended.Refused (OfVoice (fault.Claim cause))
    ends_by cause is (inl (inl same)) = absurd (none_is_some (sym once ∙ sym (ap claims.answer same) ∙ is))
    ends_by cause is (inl (inr (given, claimed))) = absurd (ok_is_err (sym claimed.told ∙ is))
    ends_by cause is (inr (given, other, ended_so, claimed)) = ended_so ∙ ap (λ (c : ClaimFault). ended.Refused (OfVoice (fault.Claim c))) (same_err (sym claimed.told ∙ is))

    pub refusal_ends : IsUnbegun old now end first last ⊎ ProverLeaves claims knows file old now end first last → (cause : ClaimFault)
        → claims.answer now ≡ Some (Err cause) → end ≡ ended.Refused (OfVoice (fault.Claim cause))
    refusal_ends left cause is = ends_by cause is (taken_in left)

-- ---- a claim that was refused

module _ {O : Type 0} (claims : ClaimantTells O) (knows : Knowledge) (file : ProverFile) where
  refused_down : (stage : Stage (Known O)) (now : Known O) (frame : Frame) (cause : ClaimFault)
      → TurnsDown Prover (prover_rules claims knows file) stage frame (OfVoice (fault.Claim cause)) now → claims.answer now.claimant ≡ Some (Err cause)
  refused_down stage now frame cause (inl (why, is, refuses)) =
      let same : why ≡ fault.Claim cause = (let e : OfVoice (fault.Claim cause) ≡ OfVoice why = is in cc) in
      let here : RefusesGranted claims knows file stage.known frame (fault.Claim cause) now = subst (λ (w : ProvingFault). ProverRefuses claims knows file stage.known frame w now) same refuses in
      here.refuses.1.told
  refused_down stage now frame cause (inr (said, says, fails)) = absurd (fails.fails.2)

  refused_so : (old now : O) (end : ProverEnd) (told : Told) (outcome : Outcome (EndFault ProvingFault)) (first last : LinkSnapshot) (cause : ClaimFault)
      → ScriptLeaves (prover_rules claims knows file) Prover (hello (knows.greeting file.id) ∷ []) (stage_of (known_of nothing_told old) (expect.Grant ∷ []))
      (known_of told now) outcome first last → outcome ≡ Refused (OfVoice (fault.Claim cause)) → claims.answer now ≡ Some (Err cause)
  refused_so old now end told outcome first last cause leaves is =
      let here = subst (λ (o : Outcome (EndFault ProvingFault)). StopsAt (prover_rules claims knows file) Prover (hello (knows.greeting file.id) ∷ []) leaves.frames leaves.stage
      (known_of told now) o first last) is leaves.stops in
      refused_down leaves.stage (known_of told now) here.frame cause here.refused

  pub refused_told : (old now : O) (end : ProverEnd) (first last : LinkSnapshot) → IsUnbegun old now end first last ⊎ ProverLeaves claims knows file old now end first last
      → (cause : ClaimFault) → end ≡ ended.Refused (OfVoice (fault.Claim cause)) → claims.answer now ≡ Some (Err cause)
  refused_told old now end first last (inl unbegun) cause is = let e : ended.Refused (OfVoice (fault.Claim cause)) ≡ _ = sym is ∙ unbegun.ended_is in cc
  refused_told old now end first last (inr left) cause is =
      refused_so old now end left.told left.outcome first last cause left.leaves (subst (λ (e : ProverEnd). EndsAs e left.told left.outcome) is left.ends)
