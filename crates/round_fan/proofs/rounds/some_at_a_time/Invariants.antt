use Rattle.std.proofs.Common.{◌≤◌, ◌-◌, length, take}
use Rattle.round_fan.proofs.rounds.some_at_a_time.Given as goal

abbrev pub invariant-loop-done : goal.invariant-loop-done
invariant-loop-done g l = (l.done ≤ length l.fn.came) × g.U.Rounds.Makes l.fn.rounds l.fn.start (take l.done l.fn.came) l.all

abbrev pub decreases-loop-done : goal.decreases-loop-done
decreases-loop-done g l = length l.fn.came - l.done
