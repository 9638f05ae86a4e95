use Rattle.poly_text.specs.TextFaults.{term_at}
use Rattle.poly_text.proofs.Items.{AreSoFar}
use Rattle.poly_text.proofs.parts.read_polynomial.Given as goal

abbrev pub invariant-terms : goal.invariant-terms
invariant-terms l = AreSoFar (term_at l.variables) l.count l.initial.tokens l.tokens l.terms.items l.counter
