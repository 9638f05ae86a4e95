use Rattle.circuit_laws.proofs.OneOutcome as law
use Rattle.circuit_laws.proofs.circuits.one_outcome.Goals as goal

pub returns : goal.returns
returns c = law.one_outcome
