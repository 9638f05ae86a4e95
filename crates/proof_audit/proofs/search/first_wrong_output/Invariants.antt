use Rattle.proof_audit.specs.Searches.{AreAsClaimedBefore}
use Rattle.proof_audit.proofs.search.first_wrong_output.Given as goal

abbrev pub invariant-loop-o : goal.invariant-loop-o
invariant-loop-o l = AreAsClaimedBefore l.wires l.claims l.o
