use Rattle.std.proofs.Common.{◌*◌, ◌%◌, ◌^◌, ◌/◌, ◌∙◌, arith}
use Rattle.zk_model.specs.Field.{prime}
use Rattle.poly_horner.proofs.PowerSteps.{even_step, odd_step}
use Rattle.poly_horner.proofs.power.Goals as goal
use Rattle.poly_horner.proofs.power.Goals.{then-rest-eq1, else-rest-eq1}

pub loop-rest-preserved : goal.loop-rest-preserved
loop-rest-preserved c = elim c.if-rest-eq1.branch [
  | then-rest-eq1 w ↦ record {
    reduced = omega (arith, w.product-is, w.mul-product.ensures);
    power =
        (λ i. ((w.product-is ∙ w.mul-product.ensures) i * c.mul-square.ensures i ^ (c.loop-rest.rest / 2)) % prime)
        ∙ odd_step prime c.loop-rest.product c.loop-rest.square c.loop-rest.rest w.if-rest-eq1.true
        ∙ c.loop-rest.invariant.power;
  }
  | else-rest-eq1 w ↦ record {
    reduced = omega (arith, w.product-is, c.loop-rest.invariant.reduced);
    power =
        (λ i. (w.product-is i * c.mul-square.ensures i ^ (c.loop-rest.rest / 2)) % prime)
        ∙ even_step prime c.loop-rest.product c.loop-rest.square c.loop-rest.rest (omega (arith, w.if-rest-eq1.false))
        ∙ c.loop-rest.invariant.power;
  }
]
