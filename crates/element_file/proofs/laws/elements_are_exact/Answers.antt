use Rattle.element_file.proofs.OneReading.{exact}
use Rattle.element_file.proofs.laws.elements_are_exact.Goals as goal

pub returns : goal.returns
returns c = exact
