use Rattle.std.proofs.Common.{◌≡◌, ℕ, List, length, ap, refl, sym, ◌∙◌, subst, arith}
use Rattle.zk_model.specs.Program.{Program}
use Rattle.zk_model.specs.Check.{ProductCheck}
use Rattle.zk_model.specs.Correlations.{span_keys}
use Rattle.zk_model.specs.ServedVerifier.{challenge_coin}
use Rattle.zk_model.specs.Statement.{IsStatement}
use Rattle.zk_model.specs.View.{span_of}
use Rattle.mult_check.specs.Checks.{product_check, opening_check}
use Rattle.session_core.specs.Ends.{masks_in}
use Rattle.session_core.specs.Jobs.{IsVerifierJob, VerifierJob, granted_from}
use Rattle.session_core.specs.Judgements.{AreLeftSides, Judges}
use Rattle.session_core.proofs.Enough.{parts_within}
use Rattle.session_core.proofs.Judged.{judged_taken, sections_counted, opened_counted}
use Rattle.session_core.proofs.verifier_job.VerifierJob.judge_left_sides.Goals as goal

pub judgement_from-requires-clause-sums : goal.judgement_from-requires-clause-sums
judgement_from-requires-clause-sums c =
    c.requires.sums ∙ sym (sections_counted c.args.self.now c.args.start c.args.corrections.now c.args.left_sides.now c.requires.left_sides)

pub judgement_from-requires-clause-openings : goal.judgement_from-requires-clause-openings
judgement_from-requires-clause-openings c =
    c.requires.openings ∙ sym (opened_counted c.args.self.now c.args.start c.args.corrections.now c.args.left_sides.now c.requires.left_sides)

pub judgement_from-requires-clause-claims : goal.judgement_from-requires-clause-claims
judgement_from-requires-clause-claims c =
    let stated = subst (λ (j : VerifierJob). IsStatement j.task.statement) c.self.view_is c.program-program.ensures.stated in
    let claims = c.claims-claims.ensures.claims ∙ ap (λ (j : VerifierJob). j.task.statement.claims) c.self.view_is in
    ap length claims ∙ stated.claim_count ∙ sym (opened_counted c.args.self.now c.args.start c.args.corrections.now c.args.left_sides.now c.requires.left_sides)

pub judgement_from-requires-clause-few_opened : goal.judgement_from-requires-clause-few_opened
judgement_from-requires-clause-few_opened c =
    let program = c.program-program.ensures.program ∙ ap (λ (j : VerifierJob). j.task.statement.program) c.self.view_is in
    let opened = opened_counted c.args.self.now c.args.start c.args.corrections.now c.args.left_sides.now c.requires.left_sides
    ∙ ap (λ (p : Program). length p.opened) (sym program) in
    omega (arith, opened, c.opened-opened.ensures.held.opened)

pub judgement_from-requires-clause-few_sections : goal.judgement_from-requires-clause-few_sections
judgement_from-requires-clause-few_sections c =
    let job : VerifierJob = c.args.self.now in
    let is : IsVerifierJob job = subst IsVerifierJob c.self.view_is c.self.invariant in
    let program = c.program-program.ensures.program ∙ ap (λ (j : VerifierJob). j.task.statement.program) c.self.view_is in
    let products = ap (λ (p : Program). length p.products) program in
    let few = parts_within (length job.task.statement.program.products) job.section_length is.section_some in
    let counted = sections_counted job c.args.start c.args.corrections.now c.args.left_sides.now c.requires.left_sides in
    omega (arith, counted, few, products, c.opened-opened.ensures.held.products)

pub returns : goal.returns
returns c greeting rounds =
    judged_taken job greeting c.args.start rounds c.args.corrections.now c.args.sums.now c.args.openings.now left.side
    job.section_length (challenge_coin job.task.file c.args.start) job.task.file.key masks c.claims-claims.result.now c.judgement_from.result
    left.keys.program refl refl refl refl
    (c.claims-claims.ensures.claims ∙ ap (λ (j : VerifierJob). j.task.statement.claims) c.self.view_is)
    left.keys.given left.keys.carried judged.0 judged.1
  where
    job : VerifierJob
    job = c.args.self.now

    left : AreLeftSides job c.args.start c.args.corrections.now c.args.left_sides.now
    left = c.requires.left_sides

    masks : List ℕ
    masks = masks_in job.task.statement.program job.section_length (span_keys job.task.file (span_of (granted_from job c.args.start)))

    key : c.key-key.result ≡ job.task.file.key
    key = c.key-key.ensures.key ∙ ap (λ (j : VerifierJob). j.task.file.key) c.self.view_is

    check : ProductCheck
    check = product_check left.side job.section_length (challenge_coin job.task.file c.args.start) masks job.task.file.key c.args.sums.now

    judged : Judges check (opening_check left.side job.task.file.key c.args.openings.now c.claims-claims.result.now) c.judgement_from.result
    judged = subst (λ k. Judges check (opening_check left.side k c.args.openings.now c.claims-claims.result.now) c.judgement_from.result) key
        (c.judgement_from.ensures left.side check left.sections (sym key) refl left.opened)
