use Rattle.session_laws.proofs.CircuitProved as law
use Rattle.session_laws.proofs.circuits.circuit_is_proved.Goals as goal

pub returns : goal.returns
returns c = law.circuit_is_proved
