-- What a door tells of itself, and how it hands out links.
use Rattle.std.specs.Prelude.{◌≡◌, ◌+◌, ℕ, List, [], ◌∷◌, ◌++◌, true, false, Option, Some, None, IfSome, IsTrue}
use Rattle.zk_port.specs.Counts.{counted}
use Rattle.zk_port.specs.Logs.{appended, NotesOnce}
use Rattle.zk_port.specs.Links.{LinkState}

-- how many links `next` can still give, and how many that will be after a listen for so many sessions; the addresses that were
-- listened at and connected to, in order, each with the patience that its links have, where the door tells them; how many links `connect` gave; how often `next` was called; and how
-- often a call of each kind has failed. A count at the end of its type stays there.
pub record DoorState : Type 0 where
  pub left : ℕ
  pub offers : ℕ → ℕ
  pub listened : Option (List (List ℕ × ℕ))
  pub connected : Option (List (List ℕ × ℕ))
  pub made : ℕ
  pub nexts : ℕ
  pub listen_faults : ℕ
  pub connect_faults : ℕ
  pub next_faults : ℕ

-- a door of which nothing was asked yet, which offers so many links, and notes addresses so
abbrev pub unasked_door : (ℕ → ℕ) → Option (List (List ℕ × ℕ)) → DoorState
unasked_door offers noted = record {
  left = 0;
  offers = offers;
  listened = noted;
  connected = noted;
  made = 0;
  nexts = 0;
  listen_faults = 0;
  connect_faults = 0;
  next_faults = 0;
}

-- after a listen at this address, with this patience, for so many sessions
abbrev pub after_listen : List ℕ → ℕ → ℕ → DoorState → DoorState
after_listen address patience sessions old =
    record old { left = old.offers sessions; listened = appended ((address, patience) ∷ []) old.listened }

-- where the door tells, this is the address that was listened at last
abbrev pub IsListenedAt : DoorState → List ℕ → Type 0
IsListenedAt door address = IfSome door.listened (λ all. (before : List (List ℕ × ℕ)) × (patience : ℕ)
    × (all ≡ before ++ (address, patience) ∷ []))

-- after a connect to this address, with this patience, which gave a link
abbrev pub after_connect : List ℕ → ℕ → DoorState → DoorState
after_connect address patience old =
    record old { connected = appended ((address, patience) ∷ []) old.connected; made = counted true old.made }

-- after a listen that was refused
pub record RefusesListen (address : List ℕ) (patience : ℕ) (old new : DoorState) : Type 0 where
  pub noted : NotesOnce (address, patience) old.listened new.listened
  pub rest : new ≡ record old { listened = new.listened; listen_faults = new.listen_faults }

-- after a connect that was refused: no link was given
pub record RefusesConnect (address : List ℕ) (patience : ℕ) (old new : DoorState) : Type 0 where
  pub noted : NotesOnce (address, patience) old.connected new.connected
  pub rest : new ≡ record old { connected = new.connected; connect_faults = new.connect_faults }

-- a link takes one of those that are left; none comes exactly where none is left
abbrev pub TakesOne : {L : Type 0} → Option L → ℕ → ℕ → Type 0
TakesOne None old new = (old ≡ 0) × (new ≡ 0)
TakesOne (Some link) old new = old ≡ new + 1

-- after a `next` that was not refused: nothing but how many links can still be given differs, and that it was called
abbrev pub OnlyTakes : DoorState → DoorState → Type 0
OnlyTakes old new = new ≡ record old { left = new.left; offers = new.offers; nexts = counted true old.nexts }

-- after a `next` that was refused
abbrev pub after_refused_next : ℕ → DoorState → DoorState
after_refused_next faults old = record old { nexts = counted true old.nexts; next_faults = faults }

-- nothing has passed, nothing has ended and nothing has failed
pub record IsFreshLink (link : LinkState) : Type 0 where
  pub unlogged : IfSome link.log (λ l. l ≡ [])
  pub unended : IfSome link.ended (λ e. e ≡ false)
  pub opened : IsTrue link.is_open
  pub unsent : link.sends ≡ 0
  pub unrefused : link.refused_sends ≡ 0
  pub unreceived : link.receives ≡ 0
  pub unfailed : link.faults ≡ 0
