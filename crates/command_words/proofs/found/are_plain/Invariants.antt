use Rattle.std.proofs.Common.{◌≡◌, map, length}
use Rattle.command_words.specs.Found.{given_by, are_plain}
use Rattle.command_words.specs.Rows.{column_at, ids_of}
use Rattle.command_words.proofs.found.are_plain.Given as goal

-- it is left to the rest
abbrev pub invariant-loop-rest : goal.invariant-loop-rest
invariant-loop-rest l = are_plain (given_by l.matches) (ids_of (map column_at l.columns)) ≡ are_plain (given_by l.matches) (ids_of (map column_at l.rest))

abbrev pub decreases-loop-rest : goal.decreases-loop-rest
decreases-loop-rest l = length l.rest
