use Rattle.circuit_laws.proofs.Made as law
use Rattle.circuit_laws.proofs.circuits.bits_are_made.Goals as goal

pub returns : goal.returns
returns c = law.bits_are_made
