use Rattle.circuit_laws.proofs.CircuitIsProgram as circuit
use Rattle.circuit_laws.proofs.circuits.circuit_is_program.Goals as goal

pub returns : goal.returns
returns c = circuit.circuit_is_program
