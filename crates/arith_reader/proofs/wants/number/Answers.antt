use Rattle.std.proofs.Common.{ap}
use Rattle.zk_model.specs.declared.ReadFault.TheVariants.{BadNumber}
use Rattle.arith_reader.specs.Wants.{a_name}
use Rattle.arith_reader.proofs.wants.number.Goals as goal

pub returns-in-Name-clause-fault : goal.returns-in-Name-clause-fault
returns-in-Name-clause-fault c = a_name c.in-Name.field-0.now _ c.in-Name.ensures.left (ap BadNumber c.taken-token.ensures)
