use Rattle.std.proofs.Common.{◌≡◌, ◌*◌, [], min, length}
use Rattle.mult_check.specs.Checks.{left_sides, product_check}
use Rattle.mult_check.proofs.left_sides.left_sides_along.Given as goal

abbrev pub invariant-loop-s : goal.invariant-loop-s
invariant-loop-s l =
    (l.walk.side ≡ l.initial.walk.side) × (l.walk.met ≡ min (l.s * l.fn.g) (length l.initial.walk.side.program.products))
    × (l.left_sides.items ≡ left_sides (product_check l.initial.walk.side l.fn.g l.fn.challenge l.fn.mask_keys l.fn.key []) l.s)
