use Rattle.std.proofs.Common.{◌≡◌, vec_capacity}
use Rattle.arith_eval.proofs.Products.{AreTaken}
use Rattle.arith_eval.proofs.asserts.with_products.Given as goal

abbrev pub invariant-loop-i : goal.invariant-loop-i
invariant-loop-i l = record {
  taken : AreTaken l.circuit.gates l.elements l.initial.given.items l.given.items l.i l.number;
  room : vec_capacity l.given ≡ vec_capacity l.initial.given;
}
