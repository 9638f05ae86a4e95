use Rattle.zk_model.specs.Check.{AllBelow, OpeningHolds}
use Rattle.mult_check.specs.Checks.{opening_check}
use Rattle.mult_check.proofs.openings.openings_along.Given as goal

abbrev pub invariant-loop-o : goal.invariant-loop-o
invariant-loop-o l = AllBelow l.o (OpeningHolds (opening_check l.walk.side l.key l.macs l.claims))
