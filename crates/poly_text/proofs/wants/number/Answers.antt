use Rattle.std.proofs.Common.{ap}
use Rattle.poly_text.specs.declared.fault.PolyFault.TheVariants.{BadNumber}
use Rattle.poly_text.specs.Steps.{a_name}
use Rattle.poly_text.proofs.wants.number.Goals as goal

pub returns-in-Name-clause-fault : goal.returns-in-Name-clause-fault
returns-in-Name-clause-fault c = a_name c.in-Name.field-0.now _ c.in-Name.ensures.left (ap BadNumber c.taken-token.ensures)
