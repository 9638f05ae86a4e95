use Rattle.bristol_reader.proofs.OneOutcome.{one_circuit}
use Rattle.bristol_reader.proofs.laws.one_circuit.Goals as goal

pub returns : goal.returns
returns c = one_circuit
