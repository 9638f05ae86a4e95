use Rattle.std.proofs.Common.{refl, sym, ◌∙◌, ap, subst}
use Rattle.zk_model.specs.Field.{◌+ₚ◌}
use Rattle.mult_check.specs.Parts.{AreSumsOf}
use Rattle.mult_check.proofs.Over.{sums_join}
use Rattle.mult_check.proofs.parts.ProverPart.join.Goals as goal

pub returns : goal.returns
returns c challenge first rest far behind =
    sums_join challenge first rest _ _ _ refl c.mul.ensures
    (c.add.ensures ∙ ap (λ n. c.self.inside.constant +ₚ n) c.mul-2.ensures)
    (c.add-2.ensures ∙ ap (λ n. c.self.inside.linear +ₚ n) c.mul-3.ensures)
    (subst (AreSumsOf challenge first) (sym c.self.view_is) far)
    (subst (AreSumsOf challenge rest) (sym c.later.view_is) behind)
