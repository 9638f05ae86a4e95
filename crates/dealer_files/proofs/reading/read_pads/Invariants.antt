use Rattle.dealer_files.specs.Reading.{both_pads, AreAppended}
use Rattle.dealer_files.proofs.reading.read_pads.Given as goal

abbrev pub invariant-loop-i : goal.invariant-loop-i
invariant-loop-i l = AreAppended both_pads l.fn.pads.items l.pads.items l.i l.bytes l.at
