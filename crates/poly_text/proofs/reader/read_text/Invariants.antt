use Rattle.std.proofs.Common.{◌≡◌}
use Rattle.poly_text.specs.TextFaults.{polynomial_at}
use Rattle.poly_text.proofs.Items.{AreSoFar}
use Rattle.poly_text.proofs.reader.read_text.Given as goal

abbrev pub invariant-constraints : goal.invariant-constraints
invariant-constraints l = record {
  so_far : AreSoFar (polynomial_at l.variables) l.constraints l.initial.tokens l.tokens l.polys.polynomials l.counter;
  same : l.polys.variables ≡ l.initial.polys.variables;
}
