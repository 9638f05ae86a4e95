-- What is taken from a door.
use Rattle.std.specs.Prelude.{◌≡◌, ◌⊎◌, ◌+◌, ◌≤◌, ℕ, zero, suc, Bool, true, false, None}
use Rattle.zk_port.specs.Counts.{Rose, counted}
use Rattle.zk_port.specs.Doors.{DoorState, unasked_door}

-- what no door tells
abbrev pub no_door : DoorState
no_door = unasked_door (λ _. 0) None

-- a count of calls after so many more
abbrev pub called : ℕ → ℕ → ℕ
called zero before = before
called (suc n) before = counted true (called n before)

-- So many notes are made of as many links that left the door, and no more than sessions are wanted. Nothing but the next link was asked
-- of the door: once for each note, and once more at most, where none was given. Where neither the door failed nor memory was missing,
-- these are all that are wanted, or all that the door had; where they are all that are wanted, nothing failed, and it was asked no more.
-- It failed exactly where its count of such calls rose.
pub record TakesLinks (sessions notes : ℕ) (door_failed memory_failed : Bool) (old new : DoorState) : Type 0 where
  pub most : notes ≤ sessions
  pub taken : new.left + notes ≡ old.left
  pub rest : new ≡ record old { left = new.left; offers = new.offers; nexts = new.nexts; next_faults = new.next_faults }
  pub asked : (new.nexts ≡ called notes old.nexts) ⊎ (new.nexts ≡ called (notes + 1) old.nexts)
  pub all : door_failed ≡ false → memory_failed ≡ false → (notes ≡ sessions) ⊎ (new.left ≡ 0)
  pub done : notes ≡ sessions → (door_failed ≡ false) × (memory_failed ≡ false) × (new.nexts ≡ called notes old.nexts)
  pub failed : door_failed ≡ true → Rose old.next_faults new.next_faults
  pub calm : door_failed ≡ false → new.next_faults ≡ old.next_faults
  pub later : old.next_faults ≤ new.next_faults
