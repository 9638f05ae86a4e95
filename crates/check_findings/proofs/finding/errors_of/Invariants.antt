use Rattle.std.proofs.Common.{◌≡◌, take}
use Rattle.zk_model.specs.Check.{error_polynomial}
use Rattle.check_findings.proofs.finding.errors_of.Given as goal

abbrev pub invariant-loop-triple : goal.invariant-loop-triple
invariant-loop-triple l = l.errors.items ≡ error_polynomial (take l.triple-index l.products)
