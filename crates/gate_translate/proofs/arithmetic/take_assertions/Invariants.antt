use Rattle.gate_translate.proofs.Splitting.{AreSplit}
use Rattle.gate_translate.proofs.arithmetic.take_assertions.Given as goal

abbrev pub invariant-loop-i : goal.invariant-loop-i
invariant-loop-i l = AreSplit l.initial.rules.items l.initial.opened.items l.i l.kept l.rules.items l.opened.items
