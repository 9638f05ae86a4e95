use Rattle.std.proofs.Common.{◌++◌, ◌∙◌, ℕ, List, ap, subst, arith, map, flat_map}
use Rattle.std.specs.Prelude.{All}
use Rattle.zk_model.specs.Field.{IsElement}
use Rattle.zk_model.specs.Frames.{frame_spelling}
use Rattle.zk_model.specs.Transcript.{bytes_from, hello_frame, grant_frame, corrections_frame, challenge_frame, sums_frame, openings_frame, verdict_frame}
use Rattle.zk_model.specs.View.{verdict_code, verdict_number}
use Rattle.zk_model.specs.declared.Side.TheVariants.{Prover, Verifier}
use Rattle.proof_frames.specs.Frames.{frame_value}
use Rattle.session_rehearsal.proofs.noting.note.Goals as goal

pub returns : goal.returns
returns c = record {
  log_is = c.in_ok-note_verdict.ensures.logged ∙ ap (λ l. l ++ bytes_from Verifier (verdict_frame (verdict_code c.args.exchange.now.verdict) (verdict_number c.args.exchange.now.verdict)))
      (c.in_ok-note_elements-3.ensures.logged ∙ (λ i. (c.in_ok-note_sums.ensures.logged
      ∙ (λ j. (c.in_ok-note_elements-2.ensures.logged ∙ ap (λ l. l ++ bytes_from Verifier (challenge_frame c.args.exchange.now.challenge))
      (c.in_ok-note_elements.ensures.logged
      ∙ (λ k. (c.in_ok-note_frames-2.ensures
      ∙ (λ m. (c.in_ok-note_frames.ensures
      ∙ (λ n. (c.in_ok-note_grant.ensures ∙ ap (λ l. l ++ bytes_from Verifier (grant_frame c.args.exchange.now.grant))
      (c.in_ok-note_hello.ensures ∙ ap (λ l. l ++ bytes_from Prover (hello_frame c.args.exchange.now.hello)) c.new-log.ensures)) n
      ++ bytes_from Prover (flat_map frame_spelling (map frame_value (c.deref.ensures.value n))))) m
      ++ bytes_from Verifier (flat_map frame_spelling (map frame_value (c.deref-2.ensures.value m))))) k
      ++ bytes_from Prover (corrections_frame (c.deref-3.ensures.value k))))) j
      ++ bytes_from Prover (sums_frame (c.deref-4.ensures.value j)))) i ++ bytes_from Prover (openings_frame (c.deref-5.ensures.value i))));
  corrections = subst (λ (l : List ℕ). All IsElement l) c.deref-3.ensures.value c.in_ok-note_elements.ensures.ranged;
  challenge = c.in_ok-note_elements-2.ensures.ranged 0 0 (omega arith);
  sums = subst (λ (l : List (ℕ × ℕ)). All (λ q. IsElement q.0 × IsElement q.1) l) c.deref-4.ensures.value c.in_ok-note_sums.ensures.ranged;
  openings = subst (λ (l : List ℕ). All IsElement l) c.deref-5.ensures.value c.in_ok-note_elements-3.ensures.ranged;
  number = c.in_ok-note_verdict.ensures.fits;
}
