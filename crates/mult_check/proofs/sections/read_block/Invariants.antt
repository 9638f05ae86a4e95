use Rattle.std.proofs.Common.{◌≡◌, length, map, take, drop}
use Rattle.mult_check.proofs.sections.read_block.Given as goal

abbrev pub invariant-loop-i : goal.invariant-loop-i
invariant-loop-i g l =
    (length l.items ≡ length l.initial.items)
    × (take l.i l.items ≡ map (g.W.Held.of l.wires) (take l.i (drop l.first (g.W.Held.products l.wires))))
