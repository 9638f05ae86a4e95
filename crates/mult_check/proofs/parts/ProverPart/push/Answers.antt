use Rattle.std.proofs.Common.{refl, sym, ◌∙◌, ap, subst}
use Rattle.zk_model.specs.Field.{◌+ₚ◌, ◌*ₚ◌}
use Rattle.mult_check.specs.Parts.{AreSumsOf}
use Rattle.mult_check.proofs.Over.{sums_push}
use Rattle.mult_check.proofs.parts.ProverPart.push.Goals as goal

pub returns : goal.returns
returns c challenge before far =
    sums_push challenge before c.args.triple _ _ refl c.mul-self-inside.ensures
    (c.add-self-inside.ensures ∙ ap (λ n. c.self.inside.constant +ₚ n) (c.mul.ensures ∙ ap (λ n. n *ₚ c.mul-self-inside.result) c.constant_part.ensures))
    (c.add-self-inside-2.ensures ∙ ap (λ n. c.self.inside.linear +ₚ n) (c.mul-2.ensures ∙ ap (λ n. n *ₚ c.mul-self-inside.result) c.linear_part.ensures))
    (subst (AreSumsOf challenge before) (sym c.self.view_is) far)
