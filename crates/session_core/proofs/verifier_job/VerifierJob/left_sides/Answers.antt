use Rattle.std.proofs.Common.{◌≡◌, ℕ, List, [], ap, ◌∙◌, subst}
use Rattle.mult_check.specs.Checks.{all_left_sides, opened_keys, product_check}
use Rattle.session_core.specs.Ends.{masks_in}
use Rattle.session_core.specs.Jobs.{VerifierJob}
use Rattle.session_core.specs.Judgements.{IsVerifierSide}
use Rattle.session_core.proofs.verifier_job.VerifierJob.left_sides.Goals as goal

pub returns : goal.returns
returns c =
    let job : VerifierJob = c.args.self.now in
    let view = c.self.view_is in
    let spanned = c.requires.keys.spanned in
    let section : c.from-section.result ≡ job.section_length = c.from-section.ensures ∙ ap (λ (j : VerifierJob). j.section_length) view in
    let key : c.key-key.result ≡ job.task.file.key = c.key-key.ensures.key ∙ ap (λ (j : VerifierJob). j.task.file.key) view in
    let masks = c.mask_keys-masks.ensures.masks ∙ ap (λ (l : List ℕ). masks_in job.task.statement.program job.section_length l) spanned in
    record {
      side = c.in_ok-walk.walk.side;
      keys = subst (λ (l : List ℕ). IsVerifierSide job l c.args.corrections.now c.in_ok-walk.walk.side) spanned c.in_ok-walk.ensures.side;
      sections = c.in_ok-sections.ensures.left_sides
          ∙ (λ i. all_left_sides (product_check c.in_ok-walk.walk.side (section i) (c.challenge-challenge.ensures i) (masks i) (key i) []));
      opened = c.in_ok-opened.ensures ∙ ap opened_keys c.left_sides_along.ensures.side;
    }
