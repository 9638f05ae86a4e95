use Rattle.circuit_laws.proofs.Ordered as law
use Rattle.circuit_laws.proofs.circuits.circuit_is_ordered.Goals as goal

pub returns : goal.returns
returns c = law.circuit_is_ordered
