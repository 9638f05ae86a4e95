use Rattle.std.proofs.Common.{◌≡◌, map, take}
use Rattle.std.specs.Prelude.{slice_index}
use Rattle.mult_check.proofs.left_sides.opened_keys_along.Given as goal

abbrev pub invariant-loop-o : goal.invariant-loop-o
invariant-loop-o l = l.keys.items ≡ map (slice_index l.walk.side.keys.wires) (take l.o l.walk.side.program.opened)
