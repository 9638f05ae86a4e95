use Rattle.std.proofs.Common.{length}
use Rattle.statement_file.proofs.Reading.{Reads}
use Rattle.statement_file.proofs.reader.read_statements.Given as goal

abbrev pub invariant-loop-rest : goal.invariant-loop-rest
invariant-loop-rest l = Reads l.fn.text l.rest l.count l.claims.items

abbrev pub decreases-loop-rest : goal.decreases-loop-rest
decreases-loop-rest l = length l.rest
