use Rattle.std.proofs.Common.{◌≡◌}
use Rattle.zk_model.specs.Check.{AllBelow, ProductCheck, SectionHolds}
use Rattle.mult_check.specs.Checks.{all_left_sides}
use Rattle.mult_check.proofs.left_sides.check_left_sides.Given as goal

abbrev pub invariant-loop-s : goal.invariant-loop-s
invariant-loop-s l = (check : ProductCheck) → l.left_sides ≡ all_left_sides check → check.key ≡ l.key → check.sums ≡ l.sums → AllBelow l.s (SectionHolds check)
