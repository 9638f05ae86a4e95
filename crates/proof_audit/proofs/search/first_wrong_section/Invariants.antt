use Rattle.proof_audit.specs.Searches.{NoErrorsBefore}
use Rattle.proof_audit.proofs.search.first_wrong_section.Given as goal

abbrev pub invariant-loop-s : goal.invariant-loop-s
invariant-loop-s l = NoErrorsBefore l.wires l.session l.s
