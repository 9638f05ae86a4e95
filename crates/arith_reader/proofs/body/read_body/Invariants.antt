use Rattle.arith_reader.proofs.BodySteps.{IsBodySoFar}
use Rattle.arith_reader.proofs.body.read_body.Given as goal

abbrev pub invariant-rows : goal.invariant-rows
invariant-rows l = IsBodySoFar l.header l.fn.tokens l.tokens l.set.items l.rows l.counter
