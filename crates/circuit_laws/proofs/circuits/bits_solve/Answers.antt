use Rattle.circuit_laws.proofs.BitsSolve as law
use Rattle.circuit_laws.proofs.circuits.bits_solve.Goals as goal

pub returns : goal.returns
returns c = law.bits_solve
