use Rattle.std.proofs.Common.{◌≡◌, ◌-◌, map, take, drop}
use Rattle.zk_model.specs.Check.{product_triple}
use Rattle.proof_audit.proofs.seen.SeenWires.section.Given as goal

abbrev pub invariant-loop-i : goal.invariant-loop-i
invariant-loop-i l = l.triples.items ≡ map (product_triple l.self.pairs) (take (l.i - l.first) (drop l.first l.self.program.products))
