use Rattle.std.proofs.Common.{refl, sym, ◌∙◌, ap, subst}
use Rattle.zk_model.specs.Field.{◌+ₚ◌}
use Rattle.mult_check.specs.Parts.{IsSumOf}
use Rattle.mult_check.proofs.Over.{sum_join}
use Rattle.mult_check.proofs.parts.VerifierPart.join.Goals as goal

pub returns : goal.returns
returns c key challenge first rest far behind =
    sum_join key challenge first rest _ _ _ refl refl c.mul.ensures
    (c.add.ensures ∙ ap (λ n. c.self.inside.sum +ₚ n) c.mul-2.ensures)
    (subst (IsSumOf key challenge first) (sym c.self.view_is) far)
    (subst (IsSumOf key challenge rest) (sym c.later.view_is) behind)
