use Rattle.std.proofs.Common.{◌≡◌, ◌+◌, length, take, drop}
use Rattle.mult_check.proofs.walked.take_block.Given as goal

abbrev pub invariant-loop-taken : goal.invariant-loop-taken
invariant-loop-taken g l =
    g.W.Walk.Keeps l.initial.walk l.walk × (g.W.Walk.met l.walk ≡ g.W.Walk.met l.initial.walk + l._taken)
    × (length (g.W.Walk.all l.walk) ≡ length (g.W.Walk.all l.initial.walk))
    × (l.block.items ≡ take l._taken (drop (g.W.Walk.met l.initial.walk) (g.W.Walk.all l.initial.walk)))
