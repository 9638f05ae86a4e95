use Rattle.std.proofs.Common.{◌≡◌, take}
use Rattle.lease_core.specs.Machine.{last_drawn}
use Rattle.lease_core.proofs.lists.last_drawn.Given as goal

abbrev pub invariant-loop-d : goal.invariant-loop-d
invariant-loop-d l = l.found ≡ last_drawn l.pass (take l.d-index l.drawn)
