use Rattle.std.proofs.Common.{refl, sym, ◌∙◌, ap, subst}
use Rattle.zk_model.specs.Field.{◌+ₚ◌, ◌*ₚ◌}
use Rattle.mult_check.specs.Parts.{IsSumOf}
use Rattle.mult_check.proofs.Over.{sum_pushed}
use Rattle.mult_check.proofs.parts.VerifierPart.push.Goals as goal

pub returns : goal.returns
returns c key challenge before far =
    sum_pushed key challenge before c.args.triple _ _ refl refl c.mul-self-inside.ensures
    (c.add-self-inside.ensures ∙ ap (λ n. c.self.inside.sum +ₚ n) (c.mul.ensures ∙ ap (λ n. n *ₚ c.mul-self-inside.result) c.key_part.ensures))
    (subst (IsSumOf key challenge before) (sym c.self.view_is) far)
