use Rattle.std.proofs.Common.{◌≡◌, ◌<◌, ◌*◌, ◌%◌, ◌^◌}
use Rattle.zk_model.specs.Field.{prime}
use Rattle.poly_horner.proofs.power.Given as goal

abbrev pub invariant-loop-rest : goal.invariant-loop-rest
invariant-loop-rest l = record {
  reduced : l.product < prime;
  power : (l.product * l.square ^ l.rest) % prime ≡ l.fn.base ^ l.exponent % prime;
}

abbrev pub decreases-loop-rest : goal.decreases-loop-rest
decreases-loop-rest l = l.rest
