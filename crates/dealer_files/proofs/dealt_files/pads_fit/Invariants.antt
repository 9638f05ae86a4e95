use Rattle.std.proofs.Common.{take}
use Rattle.std.specs.List.{AllZip}
use Rattle.dealer_files.specs.Dealt.{NamesItsPad}
use Rattle.dealer_files.proofs.dealt_files.pads_fit.Given as goal

abbrev pub invariant-loop-i : goal.invariant-loop-i
invariant-loop-i l = AllZip NamesItsPad (take l.i l.transfers) (take l.i l.pads)
