use Rattle.std.proofs.Common.{◌≡◌}
use Rattle.zk_model.specs.Check.{AllBelow, OpeningHolds}
use Rattle.wire_auth.specs.Sides.{VerifierSide}
use Rattle.mult_check.specs.Checks.{opened_keys, opening_check}
use Rattle.mult_check.proofs.left_sides.check_opened_keys.Given as goal

abbrev pub invariant-loop-o : goal.invariant-loop-o
invariant-loop-o l = (side : VerifierSide) → l.keys ≡ opened_keys side → AllBelow l.o (OpeningHolds (opening_check side l.key l.macs l.claims))
