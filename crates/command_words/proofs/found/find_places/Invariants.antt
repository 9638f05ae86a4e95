use Rattle.std.proofs.Common.{◌≡◌, ◌++◌, map, length}
use Rattle.command_words.specs.Found.{given_by, places_in}
use Rattle.command_words.specs.Rows.{column_at, ids_of}
use Rattle.command_words.proofs.found.find_places.Given as goal

-- what is found, before what the rest gives
abbrev pub invariant-loop-rest : goal.invariant-loop-rest
invariant-loop-rest l =
    places_in (given_by l.matches) (ids_of (map column_at l.places)) ≡ map (λ p. p.now) l.found.items ++ places_in (given_by l.matches) (ids_of (map column_at l.rest))

abbrev pub decreases-loop-rest : goal.decreases-loop-rest
decreases-loop-rest l = length l.rest
