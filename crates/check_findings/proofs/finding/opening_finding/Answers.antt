use Rattle.std.proofs.Common.{◌∷◌, [], ◌∙◌, subst, eq-eqb}
use Rattle.std.proofs.lemmas.Bool.{false≢true}
use Rattle.zk_model.specs.Field.{IsElement}
use Rattle.zk_model.specs.Mac.{Pair}
use Rattle.check_findings.specs.Findings.{IsMacRoot}
use Rattle.check_findings.proofs.Roots.{mac_root}
use Rattle.check_findings.proofs.finding.opening_finding.Goals as goal

pub returns-clause-some : goal.returns-clause-some
returns-clause-some c =
    let pair : Pair = record { x = c.output.inside.x; m = c.output.inside.m } in
    let found : IsMacRoot pair c.args.mac c.args.claimed c.in_ok-polynomial.polynomial.items =
    mac_root pair c.args.mac c.args.claimed c.in_ok-polynomial.polynomial.items
    (subst IsElement c.value-element.ensures.value c.value-element.ensures.below)
    (subst IsElement c.value-claim.ensures.value c.value-claim.ensures.below)
    (λ same. absurd (false≢true (c.if-eq.ensures ∙ eq-eqb _ _ same)))
    (c.in_ok-polynomial.ensures.items ∙ (λ i. c.sub.ensures i ∷ c.sub-2.ensures i ∷ [])) in
    subst (λ (p : Pair). IsMacRoot p c.args.mac c.args.claimed c.in_ok-polynomial.polynomial.items) c.output.view_is found
