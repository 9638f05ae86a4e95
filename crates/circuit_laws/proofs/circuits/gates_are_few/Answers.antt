use Rattle.circuit_laws.proofs.GatesAreFew as law
use Rattle.circuit_laws.proofs.circuits.gates_are_few.Goals as goal

pub returns : goal.returns
returns c = law.gates_are_few
