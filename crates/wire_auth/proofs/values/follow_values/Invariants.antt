use Rattle.wire_auth.proofs.Making.{AreMadeSoFar}
use Rattle.wire_auth.proofs.values.follow_values.Given as goal

abbrev pub invariant-loop-k : goal.invariant-loop-k
invariant-loop-k l = AreMadeSoFar l.program l.initial.values.items l.values.items l.k
