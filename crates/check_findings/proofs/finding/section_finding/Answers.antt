use Rattle.std.proofs.Common.{◌≡◌, ℕ, List, ◌∷◌, [], refl, ◌∙◌, ap, subst, eq-eqb}
use Rattle.std.proofs.lemmas.Bool.{false≢true}
use Rattle.zk_model.specs.Field.{◌-ₚ◌}
use Rattle.zk_model.specs.Polynomial.{IsZero, value_at}
use Rattle.zk_model.specs.Check.{error_polynomial}
use Rattle.check_findings.proofs.Roots.{sum_root}
use Rattle.check_findings.proofs.finding.section_finding.Goals as goal

pub returns-then-is_zero_poly-clause-none : goal.returns-then-is_zero_poly-clause-none
returns-then-is_zero_poly-clause-none c =
    (λ none. subst IsZero (c.deref.ensures.value ∙ c.in_ok-errors.ensures) (c.is_zero_poly.ensures.0 c.if-is_zero_poly.true), λ zero. refl)

pub returns-clause-some : goal.returns-clause-some
returns-clause-some c =
    let errors : c.deref-2.result.now ≡ error_polynomial c.args.products.now = c.deref-2.ensures.value ∙ c.in_ok-errors.ensures in
    let value = c.horner-value.ensures ∙ ap (λ (p : List ℕ). value_at p c.args.challenge) errors in
    sum_root c.args.challenge c.args.products.now c.args.mask (c.args.u, c.args.v) c.in_ok-polynomial.polynomial.items
    (λ root. absurd (false≢true (c.if-eq.ensures ∙ eq-eqb _ _ (value ∙ root))))
    (c.in_ok-polynomial.ensures.items
    ∙ (λ i. c.sub.ensures i ∷ c.sub-2.ensures i ∷ value i ∷ [])
    ∙ ap (λ (both : ℕ × ℕ). (both.0 -ₚ c.args.u) ∷ (both.1 -ₚ c.args.v) ∷ value_at (error_polynomial c.args.products.now) c.args.challenge ∷ [])
    c.section_sums-constant.ensures)
