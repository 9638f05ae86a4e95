use Rattle.arith_laws.proofs.Stated.{arith_is_statement}
use Rattle.arith_laws.proofs.laws.arith_is_statement.Goals as goal

pub returns : goal.returns
returns c = arith_is_statement
