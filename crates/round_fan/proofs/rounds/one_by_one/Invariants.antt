use Rattle.std.proofs.Common.{take}
use Rattle.round_fan.proofs.rounds.one_by_one.Given as goal

abbrev pub invariant-loop-i : goal.invariant-loop-i
invariant-loop-i g l = g.U.Rounds.Makes l.fn.rounds l.fn.start (take l.i l.fn.came) l.all
