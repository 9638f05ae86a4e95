use Rattle.wire_auth.proofs.Setting.{AreSoFar}
use Rattle.wire_auth.proofs.carrying.follow.Given as goal

abbrev pub invariant-loop-k : goal.invariant-loop-k
invariant-loop-k l = AreSoFar l.program l.one l.given l.initial.wires.items l.wires.items l.k
