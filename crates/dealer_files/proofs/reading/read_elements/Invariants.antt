use Rattle.dealer_files.specs.Reading.{an_element, AreElementsFrom, AreAppended}
use Rattle.dealer_files.proofs.reading.read_elements.Given as goal

abbrev pub invariant-loop-i : goal.invariant-loop-i
invariant-loop-i l = AreAppended an_element l.fn.elements.items l.elements.items l.i l.bytes l.at × AreElementsFrom l.bytes l.at l.i
