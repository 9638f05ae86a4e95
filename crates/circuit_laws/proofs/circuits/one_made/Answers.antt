use Rattle.circuit_laws.proofs.Made as law
use Rattle.circuit_laws.proofs.circuits.one_made.Goals as goal

pub returns : goal.returns
returns c = law.one_made
