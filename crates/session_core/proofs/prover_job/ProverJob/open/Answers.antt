use Rattle.std.proofs.Common.{◌≡◌, take, drop, ap, ◌∙◌, arith}
use Rattle.zk_model.specs.Program.{Program, section_count}
use Rattle.zk_model.specs.Check.{all_sums}
use Rattle.zk_model.specs.Transcript.{Grant}
use Rattle.session_core.specs.Jobs.{ProverJob}
use Rattle.session_core.specs.Fixing.{pairs_fixed}
use Rattle.session_core.proofs.Masks.{sums_of_few}
use Rattle.session_core.proofs.prover_job.ProverJob.open.Goals as goal

-- there are pairs for all given values and masks
pub masks_of-masks-requires : goal.masks_of-masks-requires
masks_of-masks-requires g c =
    let job : ProverJob = c.args.self.now in
    let program : c.program-program.result.now ≡ job.statement.program = c.program-program.ensures.program ∙ ap (λ (j : ProverJob). j.statement.program) c.self.view_is in
    let section : c.from-section.result ≡ c.args.grant.section_length = c.from-section.ensures ∙ ap (λ (g : Grant). g.section_length) c.grant.view_is in
    let sections : c.sections-sections.result ≡ section_count job.statement.program c.args.grant.section_length =
    c.sections-sections.ensures ∙ (λ i. section_count (program i) (section i)) in
    let givens : c.givens.result ≡ job.statement.program.givens = c.givens.ensures.count ∙ ap (λ (p : Program). p.givens) program in
    omega (arith, c.requires.held.enough, sections, givens)

pub returns-clause-sums : goal.returns-clause-sums
returns-clause-sums g c =
    let job = c.args.self.now in
    let pairs = c.args.pairs.now in
    let program : c.program-program.result.now ≡ job.statement.program = c.program-program.ensures.program ∙ ap (λ (j : ProverJob). j.statement.program) c.self.view_is in
    let section : c.from-section.result ≡ c.args.grant.section_length = c.from-section.ensures ∙ ap (λ (g : Grant). g.section_length) c.grant.view_is in
    let sections : c.sections-sections.result ≡ section_count job.statement.program c.args.grant.section_length =
    c.sections-sections.ensures ∙ (λ i. section_count (program i) (section i)) in
    let givens : c.givens.result ≡ job.statement.program.givens = c.givens.ensures.count ∙ ap (λ (p : Program). p.givens) program in
    let masks : c.masks_of-masks.result.now ≡ take (section_count job.statement.program c.args.grant.section_length) (drop job.statement.program.givens pairs) =
    c.masks_of-masks.ensures.masks ∙ (λ i. take (sections i) (drop (givens i) pairs)) in
    c.in_ok-sums.ensures.sums
    ∙ (λ i. all_sums (c.in_ok-walk.ensures.walk.0 i) (section i) c.args.challenge (c.in_ok-walk.ensures.walk.1 i) (masks i))
    ∙ sums_of_few job.statement.program c.args.grant.section_length c.args.challenge (pairs_fixed job pairs) (drop job.statement.program.givens pairs)
