use Rattle.lease_core.proofs.Codes.{found_here, found_before}
use Rattle.lease_core.proofs.lists.last_drawn.Goals as goal
use Rattle.lease_core.proofs.lists.last_drawn.Goals.{then-d-pass, else-d-pass}

pub loop-d-preserved : goal.loop-d-preserved
loop-d-preserved c = elim c.if-d-pass.branch [
  | then-d-pass w ↦ found_here _ _ _ _ _ c.loop-d-test.true w.if-d-pass.true w.found-is
  | else-d-pass w ↦ found_before _ _ _ _ _ _ c.loop-d-test.true w.if-d-pass.false w.found-is c.loop-d.invariant
]
