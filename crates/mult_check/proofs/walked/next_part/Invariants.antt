use Rattle.std.proofs.Common.{◌≡◌, ◌≤◌, ◌-◌, ◌+◌, take, drop}
use Rattle.mult_check.proofs.walked.next_part.Given as goal

abbrev pub invariant-loop-done : goal.invariant-loop-done
invariant-loop-done g l =
    (l.done ≤ l.fn.count) × g.W.Walk.Keeps l.initial.walk l.walk × (g.W.Walk.met l.walk ≡ g.W.Walk.met l.initial.walk + l.done)
    × g.P.Sums.Over l.fn.none (take l.done (drop (g.W.Walk.met l.initial.walk) (g.W.Walk.all l.initial.walk))) l.whole

abbrev pub decreases-loop-done : goal.decreases-loop-done
decreases-loop-done g l = l.fn.count - l.done
