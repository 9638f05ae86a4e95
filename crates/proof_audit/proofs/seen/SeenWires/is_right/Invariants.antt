use Rattle.std.proofs.Common.{◌-◌, map, take, drop}
use Rattle.zk_model.specs.Check.{error_polynomial, product_triple}
use Rattle.zk_model.specs.Polynomial.{IsZero}
use Rattle.proof_audit.proofs.seen.SeenWires.is_right.Given as goal

abbrev pub invariant-loop-i : goal.invariant-loop-i
invariant-loop-i l =
    IsZero (error_polynomial (map (product_triple l.self.pairs) (take (l.i - l.first) (drop l.first l.self.program.products))))
