use Rattle.bristol_reader.proofs.OneOutcome.{one_first_fault}
use Rattle.bristol_reader.proofs.laws.one_first_fault.Goals as goal

pub returns : goal.returns
returns c = one_first_fault
