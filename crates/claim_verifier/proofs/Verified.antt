-- What a session that is over was judged, and what that shows.
use Rattle.std.proofs.Common.{◌≡◌, ℕ, Some, List, [], sym, ◌∙◌, subst}
use Rattle.zk_model.specs.Files.{VerifierFile, IsVerifierFile}
use Rattle.zk_model.specs.Frames.{verdict}
use Rattle.zk_model.specs.declared.Expect.{Expect}
use Rattle.zk_model.specs.declared.Side.TheVariants.{Verifier}
use Rattle.zk_model.specs.Transcript.{Grant}
use Rattle.frame_link.specs.Lines.{LinkSnapshot}
use Rattle.session_core.specs.declared.judgement.Judgement.{Judgement}
use Rattle.session_core.specs.declared.judgement.Judgement.TheVariants.{Accepted}
use Rattle.session_driver.specs.declared.drive.Outcome.TheVariants as driven
use Rattle.session_laws.specs.Rounds.{RepliesAreInRange}
use Rattle.session_script.specs.Scripts.{EndsAccepted, ScriptLeaves, stage_of}
use Rattle.session_script.proofs.Reading.{some_logged}
use Rattle.session_verifier.specs.Serving.{Grants}
use Rattle.session_claim.specs.Claims.{Claim, HasPlaces, IsSound}
use Rattle.session_claim.specs.Script.{first_places}
use Rattle.claim_verifier.specs.Hearing.{Heard, Known, known_of, nothing_heard, IsUnheard, verifier_rules}
use Rattle.claim_verifier.specs.Sessions.{IsShown}
use Rattle.claim_verifier.proofs.Due.{AtEnd, IsJudgedSo}
use Rattle.claim_verifier.proofs.AtPlaces.{judged_at}

-- a log without a byte does not end accepted
pub none_accepted : (behind : Grant → List Expect) (places : List Expect) → EndsAccepted behind places [] → ⊥
none_accepted behind places ends = some_logged ends.frames (verdict 0 ends.number) ends.logged

module _ {R : Type 0} (grants : Grants R) (claim : Claim) (file : VerifierFile) (section_length : ℕ) (places : HasPlaces claim) (is_file : IsVerifierFile file)
    (in_range : RepliesAreInRange) (sound : IsSound claim) (old new : R) (heard : Heard) (first now : LinkSnapshot)
    (unheard : IsUnheard grants claim file section_length (known_of nothing_heard old))
    (leaves : ScriptLeaves (verifier_rules grants claim file section_length) Verifier [] (stage_of (known_of nothing_heard old) (first_places claim))
    (known_of heard new) driven.Done first now) where
  end : AtEnd grants claim file section_length (stage_of leaves.stage.known leaves.stage.left)
  end = judged_at grants claim file section_length places is_file in_range leaves.stage.known leaves.stage.left
      (record { start = known_of nothing_heard old; begins = unheard; frames = leaves.frames; passed = leaves.passed }) leaves.stops.none

  judged_is : IsJudgedSo grants claim file section_length heard end.given end.judgement
  judged_is = subst (λ (k : Known R). IsJudgedSo grants claim file section_length k.heard end.given end.judgement) (sym leaves.stops.same) end.judged

  pub judged : (judgement : Judgement) × (heard.judged ≡ Some judgement)
  judged = (end.judgement, judged_is.said)

  pub shown : heard.judged ≡ Some Accepted → IsShown claim file heard
  shown accepted =
      let e : Some end.judgement ≡ Some Accepted = sym judged_is.said ∙ accepted in
      let same : end.judgement ≡ Accepted = cc in
      let by = subst (λ j. IsJudgedSo grants claim file section_length heard end.given j) same judged_is in
      record {
        given = end.given;
        granted = by.has.granted;
        exchange = by.exchange;
        judged = by.judged;
        enough = by.enough;
        shows = λ pairs fit. sound file.key pairs _ _ is_file.key fit by.enough by.exchange by.judged;
      }
