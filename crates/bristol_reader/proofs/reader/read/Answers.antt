use Rattle.bristol_reader.proofs.Only.{only_circuit, only_fault}
use Rattle.bristol_reader.proofs.reader.read.Goals as goal

pub returns-clause-found : goal.returns-clause-found
returns-clause-found c =
    only_circuit c.args.text.now c.read_text.result c.one_circuit.ensures c.fault_or_circuit.ensures c.read_text.ensures.found

pub returns-clause-cause : goal.returns-clause-cause
returns-clause-cause c =
    only_fault c.args.text.now c.read_text.result c.one_first_fault.ensures c.fault_or_circuit.ensures c.read_text.ensures.cause
