use Rattle.zk_model.specs.Check.{AllBelow, SectionHolds}
use Rattle.mult_check.specs.Checks.{product_check}
use Rattle.mult_check.proofs.sections.check.Given as goal

abbrev pub invariant-loop-s : goal.invariant-loop-s
invariant-loop-s l = AllBelow l.s (SectionHolds (product_check l.wires l.g l.fn.challenge l.mask_keys l.key l.sums))
