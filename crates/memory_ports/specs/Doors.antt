-- How a door in memory hands out links.
use Rattle.std.specs.Prelude.{◌≡◌, ◌==◌, ◌&&◌, ℕ, List, [], ◌∷◌, Bool, true, false, not, Option, Some, None}
use Rattle.zk_port.specs.Links.{LinkState}
use Rattle.zk_port.specs.declared.way.Way.{Way}

-- the first of the links is given, if there is one, and the others stay in order
abbrev pub GivesFirst : {L : Type 0} → Option L → List L → List L → Type 0
GivesFirst None old new = (old ≡ []) × (new ≡ [])
GivesFirst (Some link) old new = old ≡ link ∷ new

abbrev pub is_unlogged : Option (List (Way × ℕ)) → Bool
is_unlogged None = true
is_unlogged (Some []) = true
is_unlogged (Some (entry ∷ log)) = false

abbrev pub is_unended : Option Bool → Bool
is_unended None = true
is_unended (Some ended) = not ended

-- whether a link is fresh, as a test
abbrev pub is_fresh : LinkState → Bool
is_fresh link =
    is_unlogged link.log && is_unended link.ended && link.is_open && (link.sends == 0) && (link.refused_sends == 0) && (link.receives == 0) && (link.faults == 0)
