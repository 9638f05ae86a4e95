-- What was read in a grant's place, and what the claimant answered, is the outcome.
use Rattle.std.proofs.Common.{◌≡◌, inl, inr, ℕ, ◌+◌, ◌≤◌, List, [], ◌++◌, length, Some, None, Err, refl, ap, sym, ◌∙◌, append-nil, arith, slice_index_or}
use Rattle.frame_laws.proofs.SentBytes.{sent_by-append}
use Rattle.zk_model.specs.Transcript.{Grant, IsGrant, BeginsWith, bytes_from, sent_by, grant_frame, refuse_frame}
use Rattle.zk_model.specs.Frames.{Frame, grant, refuse, Allows, IsFirstBad, frame_spelling}
use Rattle.zk_model.specs.declared.Expect.{Expect}
use Rattle.zk_model.specs.declared.Side.{Side}
use Rattle.zk_model.specs.declared.Side.TheVariants.{Verifier, Prover}
use Rattle.claim_store.specs.declared.ClaimFault.{ClaimFault}
use Rattle.frame_link.specs.Lines.{IsUnfinished}
use Rattle.proof_frames.proofs.Lengths.{whole_length}
use Rattle.proof_frames.proofs.Unique.{one_frame}
use Rattle.frame_link.proofs.LineLemmas.{none_is_some, front_goes_on}
use Rattle.session_core.specs.Jobs.{ProverJob, Suits}
use Rattle.session_prover.specs.declared.note.ProverOutcome.{ProverOutcome}
use Rattle.session_prover.specs.Outcomes.{claim_outcome}
use Rattle.session_prover.specs.Stages.{Claim, ClaimedFor, greeted_log, granted_log, IsSoundJob}
use Rattle.session_prover.specs.Notes.{AnswersGrantPlace, IsClaimRefused}
use Rattle.session_prover.proofs.Heard.{same_bytes_grant, greeted_heard, granted_heard}
use Rattle.session_prover.proofs.Answering.{suits_is}
use Rattle.zk_port.specs.Counts.{}
use Rattle.session_prover.specs.declared.note.ProverOutcome.TheVariants.{NoMemory}
use Rattle.session_driver.proofs.Going.{came_more}
use Rattle.zk_model.specs.declared.Expect.TheVariants as expect
use Rattle.session_prover.specs.declared.note.ProverOutcome.TheVariants as outcome

-- What was read in the grant's place, and what the claimant answered, is the outcome.

-- ---- frames in the grant's place

refused_heard : (job : ProverJob) (code : ℕ) → sent_by Verifier (greeted_log job ++ bytes_from Verifier (refuse_frame code)) ≡ refuse_frame code
refused_heard job code = came_more Prover (greeted_log job) (refuse_frame code) ∙ ap (λ l. l ++ refuse_frame code) (greeted_heard job)

-- bytes that a frame of the place begins with have none that is bad
pub none_bad : (stage : Expect) (frame : Frame) (rest more tail : List ℕ) (n : ℕ) → Allows stage frame
    → length rest ≤ length (frame_spelling frame) → rest ++ more ≡ frame_spelling frame ++ tail → IsFirstBad stage rest n → ⊥
none_bad stage frame rest more tail n allowed few is bad =
    bad.ends (front_goes_on stage frame rest more tail (n + 1) allowed few is (omega (arith, bad.within)))

-- a whole frame is not unfinished
pub whole_is_finished : (stage : Expect) (frame : Frame) (bytes : List ℕ) → Allows stage frame → bytes ≡ frame_spelling frame → IsUnfinished stage bytes → ⊥
whole_is_finished stage frame bytes allowed is (inl wanting) =
    absurd (omega (arith, whole_length stage bytes frame (record { allowed = allowed; spelled = is }), wanting))
whole_is_finished stage frame bytes allowed is (inr (n, bad)) =
    none_bad stage frame bytes [] [] n allowed (omega (arith, ap length is)) (ap (λ l. l ++ []) is) bad

-- ---- the outcome

-- it was not asked, and no whole frame came
pub answers_unread : (job : ProverJob) (claim : Claim) (result : ProverOutcome) (log : List (Side × ℕ)) → claim.answer ≡ None
    → ((frame : Frame) → Allows expect.Grant frame → sent_by Verifier log ≡ frame_spelling frame → ⊥) → AnswersGrantPlace job claim result log
answers_unread job claim result log unasked none = record {
  refused = λ fault is. absurd (none_is_some (sym unasked ∙ is));
  unsuited = λ given fits unsuited logged. absurd (none (grant given) (inl (given, refl, fits)) (ap (sent_by Verifier) logged ∙ granted_heard job given));
  turned_away = λ code fits logged. absurd (none (refuse code) (inr (code, refl, fits)) (ap (sent_by Verifier) logged ∙ refused_heard job code));
  asked = λ given fits suits logged _. none (grant given) (inl (given, refl, fits)) (ap (sent_by Verifier) logged ∙ granted_heard job given);
}

-- this frame came alone
module _ (job : ProverJob) (claim : Claim) (frame : Frame) (log : List (Side × ℕ)) (allowed : Allows expect.Grant frame)
    (is : log ≡ greeted_log job ++ bytes_from Verifier (frame_spelling frame)) where
  -- whichever did is it
  one_came : (other : Frame) → Allows expect.Grant other → log ≡ greeted_log job ++ bytes_from Verifier (frame_spelling other) → frame ≡ other
  one_came other allowed_too logged =
      one_frame expect.Grant (frame_spelling frame) frame other (record { allowed = allowed; spelled = refl }) (record {
        allowed = allowed_too;
        spelled = sym (verifier_heard frame) ∙ ap (sent_by Verifier) (sym is ∙ logged) ∙ verifier_heard other;
      })
    where
      verifier_heard : (f : Frame) → sent_by Verifier (greeted_log job ++ bytes_from Verifier (frame_spelling f)) ≡ frame_spelling f
      verifier_heard f = came_more Prover (greeted_log job) (frame_spelling f) ∙ ap (λ l. l ++ frame_spelling f) (greeted_heard job)

  pub answers_frame : (result : ProverOutcome)
      → ((fault : ClaimFault) → claim.answer ≡ Some (Err fault) → (result ≡ claim_outcome fault) × IsClaimRefused job claim log fault)
      → ((given : Grant) → frame ≡ grant given → ¬ Suits job.file.params job.statement.program given → result ≡ outcome.BadGrant)
      → ((code : ℕ) → frame ≡ refuse code → result ≡ outcome.PeerRefused code)
      → ((given : Grant) → frame ≡ grant given → Suits job.file.params job.statement.program given → ¬ (claim.answer ≡ None))
      → AnswersGrantPlace job claim result log
  answers_frame result refused unsuited turned_away asked = record {
    refused = refused;
    unsuited = λ given fits bad logged. unsuited given (one_came (grant given) (inl (given, refl, fits)) logged) bad;
    turned_away = λ code fits logged. turned_away code (one_came (refuse code) (inr (code, refl, fits)) logged);
    asked = λ given fits suits logged. asked given (one_came (grant given) (inl (given, refl, fits)) logged) suits;
  }

-- it claimed the units of a grant that was read
pub answers_claimed : (job : ProverJob) (claim : Claim) (given : Grant) (result : ProverOutcome) (log : List (Side × ℕ)) → IsSoundJob job → ClaimedFor claim given
    → IsGrant job.file.params job.statement.program given → BeginsWith log (granted_log job given) → AnswersGrantPlace job claim result log
answers_claimed job claim given result log sound claimed granted begun = record {
  refused = λ fault is. absurd (let first = claimed.answer in cc);
  unsuited = λ other fits unsuited logged. absurd (unsuited (suits_is job.file.params job.statement.program other
      (same_bytes_grant job.file.params job.statement.program other given [] (sent_by Verifier begun.0) sound.file.params.total fits granted
      (append-nil (grant_frame other) ∙ sym (granted_heard job other) ∙ ap (sent_by Verifier) (sym logged) ∙ heard))));
  turned_away = λ code _ logged.
      let kinds : 2 ≡ 10 = ap (λ l. slice_index_or l 0 0) (sym heard ∙ ap (sent_by Verifier) logged ∙ refused_heard job code) in absurd (omega (arith, kinds));
  asked = λ other _ _ _ none. none_is_some (sym none ∙ claimed.answer);
}
  where
    heard : sent_by Verifier log ≡ grant_frame given ++ sent_by Verifier begun.0
    heard = ap (sent_by Verifier) begun.1 ∙ sent_by-append Verifier (granted_log job given) begun.0
        ∙ ap (λ l. l ++ sent_by Verifier begun.0) (granted_heard job given)
