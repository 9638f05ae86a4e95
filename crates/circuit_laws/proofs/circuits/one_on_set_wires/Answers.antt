use Rattle.circuit_laws.proofs.Unique as law
use Rattle.circuit_laws.proofs.circuits.one_on_set_wires.Goals as goal

pub returns : goal.returns
returns c = law.one_on_set_wires
