use Rattle.std.proofs.Common.{◌≡◌, take, drop, length, ap, refl, ◌∙◌, subst, arith}
use Rattle.zk_model.specs.Program.{Program, section_count}
use Rattle.zk_model.specs.Files.{IsVerifierFile}
use Rattle.session_core.specs.Jobs.{VerifierJob, units_of_job}
use Rattle.session_core.proofs.Enough.{enough_units}
use Rattle.session_core.proofs.verifier_job.VerifierJob.mask_keys.Goals as goal

-- there are keys for all given values and masks
pub masks_of-requires : goal.masks_of-requires
masks_of-requires c =
    let job : VerifierJob = c.args.self.now in
    let view = c.self.view_is in
    let program : c.program-program.result.now ≡ job.task.statement.program = c.program-program.ensures.program ∙ ap (λ (j : VerifierJob). j.task.statement.program) view in
    let section : c.from-section.result ≡ job.section_length = c.from-section.ensures ∙ ap (λ (j : VerifierJob). j.section_length) view in
    let sections : c.sections-sections.result ≡ section_count job.task.statement.program job.section_length =
    c.sections-sections.ensures ∙ (λ i. section_count (program i) (section i)) in
    let givens : c.givens.result ≡ job.task.statement.program.givens = c.givens.ensures.count ∙ ap (λ (p : Program). p.givens) program in
    let file : IsVerifierFile job.task.file = subst (λ (j : VerifierJob). IsVerifierFile j.task.file) view c.total-total.ensures.file in
    let enough = enough_units job.task.file.params job.task.statement.program job.section_length (units_of_job job) (length c.args.keys.now)
    file.params refl c.requires in
    omega (arith, enough, sections, givens)

pub returns-clause-masks : goal.returns-clause-masks
returns-clause-masks c =
    let job : VerifierJob = c.args.self.now in
    let view = c.self.view_is in
    let program : c.program-program.result.now ≡ job.task.statement.program = c.program-program.ensures.program ∙ ap (λ (j : VerifierJob). j.task.statement.program) view in
    let section : c.from-section.result ≡ job.section_length = c.from-section.ensures ∙ ap (λ (j : VerifierJob). j.section_length) view in
    let sections : c.sections-sections.result ≡ section_count job.task.statement.program job.section_length =
    c.sections-sections.ensures ∙ (λ i. section_count (program i) (section i)) in
    let givens : c.givens.result ≡ job.task.statement.program.givens = c.givens.ensures.count ∙ ap (λ (p : Program). p.givens) program in
    c.masks_of.ensures.masks ∙ (λ i. take (sections i) (drop (givens i) c.args.keys.now))

pub returns-clause-count : goal.returns-clause-count
returns-clause-count c =
    let job : VerifierJob = c.args.self.now in
    let view = c.self.view_is in
    let program : c.program-program.result.now ≡ job.task.statement.program = c.program-program.ensures.program ∙ ap (λ (j : VerifierJob). j.task.statement.program) view in
    let section : c.from-section.result ≡ job.section_length = c.from-section.ensures ∙ ap (λ (j : VerifierJob). j.section_length) view in
    c.masks_of.ensures.count ∙ c.sections-sections.ensures ∙ (λ i. section_count (program i) (section i))
