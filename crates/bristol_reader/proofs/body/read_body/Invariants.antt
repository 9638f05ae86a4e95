use Rattle.bristol_reader.proofs.BodySteps.{IsBodySoFar}
use Rattle.bristol_reader.proofs.body.read_body.Given as goal

abbrev pub invariant-gates : goal.invariant-gates
invariant-gates l =
    IsBodySoFar l.header l.fn.tokens l.tokens l.set l.gates l.counter
