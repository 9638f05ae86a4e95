-- What a run of a store does to its journal and to the ceiling shown, up to any moment at which it may be stopped.
use Rattle.std.specs.Prelude.{ℕ, ◌≤◌, List, [], ◌∷◌, Result}
use Rattle.zk_port.specs.Disks.{DiskState}
use Rattle.lease_journal.specs.declared.fault.JournalFault.{JournalFault}
use Rattle.twin_journal.specs.States.{TwinState}
use Rattle.lease_store.specs.Storing.{LeavesCeiling, CeilingMayFollow, Moved, Stores}

-- the seat has its journal store a ceiling, which answers so and is then this one; it shows a ceiling; a pass is granted a span that
-- ends here
pub data Deed (D : Type 0) : Type 0 where
  asks : ℕ → Result (Unit {0}) JournalFault → TwinState D → Deed D
  shows : ℕ → Deed D
  grants : ℕ → Deed D

module _ {D : Type 0} (state : D → DiskState) (total : ℕ) where
  -- these deeds may follow, in order, where this is the journal, and this ceiling is shown
  abbrev pub MayDo : TwinState D → ℕ → List (Deed D) → Type 0
  MayDo journal shown [] = Unit {0}
  MayDo journal shown (asks ceiling answer now ∷ deeds) =
      CeilingMayFollow total journal.last.0 ceiling × Moved state journal ceiling answer now × MayDo now shown deeds
  MayDo journal shown (shows ceiling ∷ deeds) = (shown ≤ ceiling) × Stores state total journal ceiling × MayDo journal ceiling deeds
  MayDo journal shown (grants end ∷ deeds) = (end ≤ shown) × MayDo journal shown deeds

  -- the journal stores each of these ends: where its disk tells its content, each image finds a ceiling at or above it
  abbrev pub StoresEach : TwinState D → List ℕ → Type 0
  StoresEach journal [] = Unit {0}
  StoresEach journal (end ∷ ends) = Stores state total journal end × StoresEach journal ends

  -- and so does each image that a crash leaves at a moment of a call that leads from the first to the second
  abbrev pub LeavesEach : TwinState D → TwinState D → List ℕ → Type 0
  LeavesEach journal now [] = Unit {0}
  LeavesEach journal now (end ∷ ends) = LeavesCeiling state total journal now end × LeavesEach journal now ends

  -- before the first deed, between any two, after the last one, and at each moment of each, what was granted by then is stored
  abbrev pub IsSafe : TwinState D → List ℕ → List (Deed D) → Type 0
  IsSafe journal ends [] = StoresEach journal ends
  IsSafe journal ends (asks ceiling answer now ∷ deeds) = StoresEach journal ends × LeavesEach journal now ends × IsSafe now ends deeds
  IsSafe journal ends (shows ceiling ∷ deeds) = StoresEach journal ends × IsSafe journal ends deeds
  IsSafe journal ends (grants end ∷ deeds) = StoresEach journal ends × IsSafe journal (end ∷ ends) deeds

-- A run that began with a ceiling shown that its journal stored may be stopped at any moment, whatever it does and whether or not it
-- ever returns: each span granted by then ends at or below what each image of the disk finds.
abbrev pub StopsAreSafe : {D : Type 0} → (D → DiskState) → Type 0
StopsAreSafe {D} state =
    (total shown : ℕ) (journal : TwinState D) (deeds : List (Deed D))
    → Stores state total journal shown → MayDo state total journal shown deeds → IsSafe state total journal [] deeds

-- a journal stored this ceiling or a higher one
abbrev pub WasStored : {D : Type 0} → (D → DiskState) → ℕ → Type 0
WasStored {D} state ceiling = (total : ℕ) × (journal : TwinState D) × Stores state total journal ceiling
