use Rattle.pad_transfer.proofs.Masks.{IsXored}
use Rattle.pad_transfer.proofs.xored.Given as goal

abbrev pub invariant-loop-i : goal.invariant-loop-i
invariant-loop-i l = IsXored l.left l.right l.bytes l.i
