use Rattle.circuit_laws.proofs.Satisfied as law
use Rattle.circuit_laws.proofs.circuits.satisfied_is_solved.Goals as goal

pub returns : goal.returns
returns c = law.satisfied_is_solved
