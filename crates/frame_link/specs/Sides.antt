-- A link's log, seen from one side.
use Rattle.std.specs.Prelude.{ℕ, List, map}
use Rattle.zk_model.specs.declared.Side.{Side}
use Rattle.zk_model.specs.declared.Side.TheVariants.{Prover, Verifier}
use Rattle.zk_port.specs.declared.way.Way.{Way}
use Rattle.zk_port.specs.declared.way.Way.TheVariants.{Sent, Received}

-- the other side
abbrev pub peer_of : Side → Side
peer_of Prover = Verifier
peer_of Verifier = Prover

-- who sent what went this way, where this end is of that side
abbrev pub side_of : Side → Way → Side
side_of mine Sent = mine
side_of mine Received = peer_of mine

-- each byte with the side that sent it
abbrev pub seen_by : Side → List (Way × ℕ) → List (Side × ℕ)
seen_by mine log = map (λ entry. (side_of mine entry.0, entry.1)) log
