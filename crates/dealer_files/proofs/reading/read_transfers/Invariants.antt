use Rattle.dealer_files.specs.Reading.{a_transfer, AreBits, AreAppended}
use Rattle.dealer_files.proofs.reading.read_transfers.Given as goal

abbrev pub invariant-loop-i : goal.invariant-loop-i
invariant-loop-i l = AreAppended a_transfer l.fn.transfers.items l.transfers.items l.i l.bytes l.at × AreBits l.bytes l.at l.i
