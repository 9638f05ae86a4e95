use Rattle.std.proofs.Common.{◌≡◌, ◌*◌, min, length}
use Rattle.zk_model.specs.Check.{AllBelow, SectionHolds}
use Rattle.mult_check.specs.Checks.{sent_check}
use Rattle.mult_check.proofs.streams.check_along.Given as goal

abbrev pub invariant-loop-s : goal.invariant-loop-s
invariant-loop-s l =
    (l.walk.side ≡ l.initial.walk.side) × (l.walk.met ≡ min (l.s * l.fn.sent.section_length) (length l.initial.walk.side.program.products))
    × AllBelow l.s (SectionHolds (sent_check l.initial.walk.side l.fn.sent))
