use Rattle.circuit_laws.proofs.Satisfied as law
use Rattle.circuit_laws.proofs.circuits.solved_is_satisfied.Goals as goal

pub returns : goal.returns
returns c = law.solved_is_satisfied
