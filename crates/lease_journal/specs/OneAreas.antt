-- What stands in a file of a journal of one area.
use Rattle.std.specs.Prelude.{◌≡◌, ℕ, ◌≤◌, List, None, true, false}
use Rattle.zk_model.specs.declared.JournalKind.{JournalKind}
use Rattle.zk_model.specs.declared.limits.TheConstants.{MAX_SLOTS}
use Rattle.lease_journal.specs.Journals.{AreUsed, IsFirstBad, are_slots, last_body, slots_at}
use Rattle.lease_journal.specs.Twins.{HasMovedHeader, is_migrated}
use Rattle.lease_journal.specs.Scans.{HasRead}
use Rattle.lease_journal.specs.declared.one_area.OneArea.{OneArea}
use Rattle.lease_journal.specs.declared.one_area.OneArea.TheVariants.{Moved, Here}

-- A journal of one area that was not migrated says this: a right header, the slots in use, and bodies that all keep their rule.
pub record IsOneArea (kind : JournalKind) (id : List ℕ) (total slots used : ℕ) (last : ℕ × ℕ) (bytes : List ℕ) : Type 0 where
  pub header : HasMovedHeader kind id total bytes
  pub here : is_migrated kind bytes ≡ false
  pub slots_are : slots ≡ slots_at bytes
  pub slots_used : AreUsed 64 slots used bytes
  pub last_is : last ≡ last_body 64 bytes used
  pub sound : IsFirstBad kind total 64 bytes used None

-- what was found in these bytes
abbrev pub FindsOneArea : JournalKind → List ℕ → ℕ → List ℕ → OneArea → Type 0
FindsOneArea kind id total bytes Moved = HasMovedHeader kind id total bytes × (is_migrated kind bytes ≡ true)
FindsOneArea kind id total bytes (Here slots used last) = IsOneArea kind id total slots used last bytes

-- there are as many slots as there may be, and no more of them are in use; also on a disk that tells no content
abbrev pub IsBounded : JournalKind → ℕ → OneArea → Type 0
IsBounded kind total Moved = Unit {0}
IsBounded kind total (Here slots used last) =
    (slots ≤ MAX_SLOTS) × (used ≤ slots) × (are_slots kind total slots ≡ true) × HasRead kind total used last
