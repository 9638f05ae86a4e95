use Rattle.std.proofs.Common.{◌≤◌, length, sym, ◌∙◌, subst, arith}
use Rattle.session_core.proofs.Enough.{parts_within}
use Rattle.session_core.proofs.verifier_core.VerifierCore.expects.Goals as goal

pub returns-in-Sums-clause-short : goal.returns-in-Sums-clause-short
returns-in-Sums-clause-short c =
    let some : 1 ≤ c.from-in-Sums.result = subst (λ n. 1 ≤ n) (sym (c.from-in-Sums.ensures ∙ c.section.ensures.section)) c.section.ensures.job.section_some in
    let few = parts_within (length c.program-program.result.now.products) c.from-in-Sums.result some in
    omega (arith, c.sections-sections.ensures, few, c.products-products.ensures.held.products)
