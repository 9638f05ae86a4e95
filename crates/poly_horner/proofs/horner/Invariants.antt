use Rattle.std.proofs.Common.{◌≡◌, ◌<◌}
use Rattle.zk_model.specs.Field.{prime}
use Rattle.zk_model.specs.Polynomial.{value_at}
use Rattle.poly_horner.proofs.HornerSteps.{rest_and_value}
use Rattle.poly_horner.proofs.horner.Given as goal

abbrev pub invariant-loop-coefficient : goal.invariant-loop-coefficient
invariant-loop-coefficient l = record {
  reduced : l.value < prime;
  split : rest_and_value l.coefficient-iterator.iter.rest.now l.point l.value ≡ value_at l.coefficients l.point;
}
