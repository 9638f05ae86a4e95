use Rattle.circuit_laws.proofs.CircuitIsStatement as law
use Rattle.circuit_laws.proofs.circuits.circuit_is_statement.Goals as goal

pub returns : goal.returns
returns c = law.circuit_is_statement
