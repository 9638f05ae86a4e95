use Rattle.circuit_laws.proofs.CircuitIsProgram as circuit
use Rattle.circuit_laws.proofs.circuits.products_are_numbered.Goals as goal

pub returns : goal.returns
returns c = circuit.numbered
