use Rattle.std.proofs.Common.{length}
use Rattle.element_file.proofs.Reading.{IsReadSoFar}
use Rattle.element_file.proofs.reader.read_elements.Given as goal

abbrev pub invariant-loop-elements : goal.invariant-loop-elements
invariant-loop-elements l = IsReadSoFar l.fn.text l.tokens l.elements.items

abbrev pub decreases-loop-elements : goal.decreases-loop-elements
decreases-loop-elements l = length l.tokens.left
