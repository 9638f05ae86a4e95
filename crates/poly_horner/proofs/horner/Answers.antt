use Rattle.std.proofs.Common.{arith, ap, ◌∙◌}
use Rattle.zk_model.specs.Field.{◌+ₚ◌}
use Rattle.poly_horner.proofs.HornerSteps.{horner_step, horner_end}
use Rattle.poly_horner.proofs.horner.Goals as goal

pub loop-coefficient-preserved : goal.loop-coefficient-preserved
loop-coefficient-preserved c = record {
  reduced = omega (arith, c.add-value.ensures);
  split = horner_step _ _ _ _ _ _ _ c.in-Some.ensures.steps (c.add-value.ensures ∙ ap (λ n. c.in-Some.coefficient.now +ₚ n) c.mul.ensures) c.loop-coefficient.invariant.split;
}

pub returns : goal.returns
returns c = horner_end _ _ _ _ c.in-None.ensures.steps.0 c.loop-coefficient.invariant.reduced c.loop-coefficient.invariant.split
