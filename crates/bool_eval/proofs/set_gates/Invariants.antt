use Rattle.std.proofs.Common.{take}
use Rattle.bool_eval.proofs.BitSteps.{AreBitsSoFar}
use Rattle.bool_eval.proofs.set_gates.Given as goal

abbrev pub invariant-loop-i : goal.invariant-loop-i
invariant-loop-i l = AreBitsSoFar l.circuit (take l.circuit.inputs l.fn.bits) l.bits l.i
