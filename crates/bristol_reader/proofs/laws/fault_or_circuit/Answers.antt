use Rattle.bristol_reader.proofs.OneOutcome.{fault_or_circuit}
use Rattle.bristol_reader.proofs.laws.fault_or_circuit.Goals as goal

pub returns : goal.returns
returns c = fault_or_circuit
