use Rattle.std.proofs.Common.{take}
use Rattle.std.specs.List.{AllZip}
use Rattle.dealer_files.proofs.Zips.{KeyFits}
use Rattle.dealer_files.proofs.dealt_files.keys_fit.Given as goal

abbrev pub invariant-loop-i : goal.invariant-loop-i
invariant-loop-i l = AllZip (KeyFits l.key) (take l.i l.pairs) (take l.i l.keys)
