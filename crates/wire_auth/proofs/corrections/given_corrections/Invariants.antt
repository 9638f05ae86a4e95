use Rattle.wire_auth.proofs.InPlace.{AreCorrected}
use Rattle.wire_auth.proofs.corrections.given_corrections.Given as goal

abbrev pub invariant-loop-i : goal.invariant-loop-i
invariant-loop-i l = AreCorrected l.initial.corrections.items l.dealt l.corrections.items l.i
