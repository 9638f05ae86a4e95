use Rattle.mult_check.proofs.parts.ProverPartSumsTriple.and.Goals as goal

pub returns : goal.returns
returns c none first rest before behind = c.join.ensures none.challenge first rest before behind
