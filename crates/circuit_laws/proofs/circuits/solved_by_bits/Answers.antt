use Rattle.circuit_laws.proofs.SolvedByBits as law
use Rattle.circuit_laws.proofs.circuits.solved_by_bits.Goals as goal

pub returns : goal.returns
returns c = law.solved_by_bits
