use Rattle.std.proofs.Common.{◌≡◌}
use Rattle.poly_text.specs.TextFaults.{factor_of, next}
use Rattle.poly_text.proofs.Items.{AreSoFar}
use Rattle.poly_text.proofs.parts.read_term.Given as goal

abbrev pub invariant-factors : goal.invariant-factors
invariant-factors l = record {
  so_far : AreSoFar (next (factor_of l.variables)) l.count l.initial.tokens l.tokens l.term.factors l.counter;
  same : l.term.coefficient ≡ l.initial.term.coefficient;
}
