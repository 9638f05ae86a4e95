use Rattle.std.proofs.Common.{ℕ, List, ap, ◌∙◌}
use Rattle.zk_model.specs.Mac.{corrected_keys}
use Rattle.session_core.specs.Ends.{masks_in}
use Rattle.session_core.specs.Jobs.{VerifierJob}
use Rattle.session_core.proofs.Judged.{judged_taken}
use Rattle.session_core.proofs.verifier_job.VerifierJob.judge.Goals as goal

pub returns : goal.returns
returns g c greeting rounds =
    let job : VerifierJob = c.args.self.now in
    let view = c.self.view_is in
    let side = c.in_ok-walk.ensures.side in
    let spanned = c.requires.keys.spanned in
    judged_taken job greeting c.args.start rounds c.args.corrections.now c.args.sums.now c.args.openings.now c.in_ok-walk.walk.side
    c.from.result c.challenge.result c.key.result c.mask_keys-masks.result.now c.claims-claims.result.now c.in_ok-judgement.judgement
    side.program (c.from.ensures ∙ ap (λ (j : VerifierJob). j.section_length) view) c.challenge.ensures
    (c.key.ensures.key ∙ ap (λ (j : VerifierJob). j.task.file.key) view)
    (c.mask_keys-masks.ensures.masks ∙ ap (λ (l : List ℕ). masks_in job.task.statement.program job.section_length l) spanned)
    (c.claims-claims.ensures.claims ∙ ap (λ (j : VerifierJob). j.task.statement.claims) view)
    (side.given ∙ ap (λ (l : List ℕ). corrected_keys job.task.file.key l c.args.corrections.now) spanned)
    side.carried c.in_ok-judgement.ensures.0 c.in_ok-judgement.ensures.1
