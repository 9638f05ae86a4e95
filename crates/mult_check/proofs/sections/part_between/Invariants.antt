use Rattle.std.proofs.Common.{◌≡◌, ◌≤◌, ◌-◌, length, map, take, drop}
use Rattle.mult_check.proofs.sections.part_between.Given as goal

abbrev pub invariant-loop-at : goal.invariant-loop-at
invariant-loop-at g l =
    (l.fn.first ≤ l.at) × (l.at ≤ l.fn.end) × (length l.block ≡ length l.initial.block)
    × g.P.Sums.Over l.fn.none (map (g.W.Held.of l.fn.wires) (take (l.at - l.fn.first) (drop l.fn.first (g.W.Held.products l.fn.wires)))) l.part

abbrev pub decreases-loop-at : goal.decreases-loop-at
decreases-loop-at g l = l.fn.end - l.at
