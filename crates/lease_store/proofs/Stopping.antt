-- Runs that are stopped.
use Rattle.std.proofs.Common.{ℕ, ◌≤◌, List, [], ◌∷◌, arith}
use Rattle.zk_port.specs.Disks.{DiskState}
use Rattle.twin_journal.specs.States.{TwinState}
use Rattle.lease_store.specs.Storing.{LeavesCeiling, Stores}
use Rattle.lease_store.specs.Stops.{Deed, asks, shows, grants, IsSafe, LeavesEach, MayDo, StopsAreSafe, StoresEach}
use Rattle.lease_store.proofs.Keeping.{keeps, moments, stores_lower}

-- each of these is at most that
abbrev AreUpTo : ℕ → List ℕ → Type 0
AreUpTo shown [] = Unit {0}
AreUpTo shown (end ∷ ends) = (end ≤ shown) × AreUpTo shown ends

up_to_more : (low high : ℕ) (ends : List ℕ) → low ≤ high → AreUpTo low ends → AreUpTo high ends
up_to_more low high [] under up = tt
up_to_more low high (end ∷ ends) under up = (omega (arith, under, up.0), up_to_more low high ends under up.1)

module _ {D : Type 0} (state : D → DiskState)
    (counts_now : (disk : D) (t : ℕ) (c : List ℕ) → t ≤ (state disk).moment → (state disk).images c → (state disk).images_since t c)
    (only_now : (disk : D) (c : List ℕ) → (state disk).images_since (state disk).moment c → (state disk).images c) where
  stores_each : (total shown : ℕ) (journal : TwinState D) (ends : List ℕ) → Stores state total journal shown → AreUpTo shown ends → StoresEach state total journal ends
  stores_each total shown journal [] s up = tt
  stores_each total shown journal (end ∷ ends) s up = (stores_lower state total journal end shown up.0 s, stores_each total shown journal ends s up.1)

  leaves_each : (total : ℕ) (journal now : TwinState D) (ends : List ℕ) → ((c : ℕ) → Stores state total journal c → LeavesCeiling state total journal now c)
      → StoresEach state total journal ends → LeavesEach state total journal now ends
  leaves_each total journal now [] each s = tt
  leaves_each total journal now (end ∷ ends) each s = (each end s.0, leaves_each total journal now ends each s.1)

  safe : (total shown : ℕ) (journal : TwinState D) (ends : List ℕ) (deeds : List (Deed D)) → Stores state total journal shown → AreUpTo shown ends
      → MayDo state total journal shown deeds → IsSafe state total journal ends deeds
  safe total shown journal ends [] s up may = stores_each total shown journal ends s up
  safe total shown journal ends (asks ceiling answer now ∷ deeds) s up may =
      let here = stores_each total shown journal ends s up in (
        here,
        leaves_each total journal now ends (moments state counts_now only_now total journal ceiling may.0 now answer may.1) here,
        safe total shown now ends deeds (keeps state counts_now only_now total journal ceiling may.0 now answer may.1 shown s) up may.2,
      )
  safe total shown journal ends (shows ceiling ∷ deeds) s up may =
      (stores_each total shown journal ends s up, safe total ceiling journal ends deeds may.1 (up_to_more shown ceiling ends may.0 up) may.2)
  safe total shown journal ends (grants end ∷ deeds) s up may =
      (stores_each total shown journal ends s up, safe total shown journal (end ∷ ends) deeds s (may.0, up) may.1)

  pub stops_are_safe : StopsAreSafe state
  stops_are_safe total shown journal deeds s may = safe total shown journal [] deeds s tt may
