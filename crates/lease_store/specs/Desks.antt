-- What stands behind the lock: the journal, and the seat that raises the ceiling.
use Rattle.std.specs.Prelude.{◌≡◌, ◌≢◌, ℕ, ◌<◌, ◌≤◌, [], List, Some, IsSomeAnd}
use Rattle.atomic_table.specs.Seated.{TableId}
use Rattle.zk_port.specs.Counts.{Rose}
use Rattle.zk_port.specs.Disks.{DiskState, LeavesOnly, untold}
use Rattle.zk_port.specs.Images.{Only}
use Rattle.lease_journal.specs.Twins.{twin_ceiling_slots}
use Rattle.lease_journal.specs.declared.fault.JournalFault.{JournalFault}
use Rattle.lease_journal.specs.declared.fault.JournalFault.TheVariants.{Device, Broken, Full}
use Rattle.twin_journal.specs.States.{IsKept, TwinState}
use Rattle.lease_words.specs.declared.view.View.{View}
use Rattle.lease_store.specs.Ceilings.{FindsCeiling, HasCeilings, last_ceiling}

-- the name of no table
abbrev pub no_table : TableId
no_table = record { words = 0; slots = 0; views_name = 0; atom = 0; block = 0; offset = 0; slot_names = [] }

-- what no disk tells
abbrev pub no_disk : DiskState
no_disk = untold 0

-- An open journal of ceilings of this id and total, whose disk has not failed and whose file has these bytes, says its last ceiling.
pub record IsKeptAt {D : Type 0} (state : D → DiskState) (id : List ℕ) (total : ℕ) (journal : TwinState D) (bytes : List ℕ) : Type 0 where
  pub bodies : List (ℕ × ℕ)
  pub kept : IsKept state journal bodies bytes
  pub says : HasCeilings id total journal.begin journal.generation bodies bytes
  pub last : last_ceiling bodies ≡ journal.last.0

-- a name's disk is this one: it tells the same, and since then a crash might have left only what it may leave now
pub record Begins (start now : DiskState) : Type 0 where
  pub chosen : now.chosen ≡ start.chosen
  pub content : now.content ≡ start.content
  pub room : now.room ≡ start.room
  pub faults : now.faults ≡ start.faults
  pub any_moment : LeavesOnly start now now.images

-- An open journal of this id and total, and the view of its seat. `start` is the disk as it was when the journal was opened, and `base`
-- the ceiling then.
pub record IsLeaseDesk {D : Type 0} (state : D → DiskState) (start : DiskState) (id : List ℕ) (total base : ℕ) (journal : TwinState D) (v : View) : Type 0 where
  -- the seat's ceiling is the journal's last, and its mark is the fault that the journal keeps, or 0
  pub total_is : v.total ≡ total
  pub ceiling : v.ceiling ≡ journal.last.0
  pub mark : v.own_mark ≡ journal.fault
  pub low : journal.last.0 ≤ total
  pub slots_are : journal.slots ≡ twin_ceiling_slots total
  pub risen : base ≤ journal.last.0
  -- while no fault is kept, the content says this ceiling, and a crash leaves the content
  pub kept : journal.fault ≡ 0 → (bytes : List ℕ) → (state journal.disk).content ≡ Some bytes → IsKeptAt state id total journal bytes
  pub only : journal.fault ≡ 0 → Only (state journal.disk).content (state journal.disk).images
  -- a disk that says its content said it at the start
  pub told : (bytes : List ℕ) → (state journal.disk).content ≡ Some bytes → (first : List ℕ) × (start.content ≡ Some first)
  -- where the content was known, it says this ceiling or a higher one, so does each image, and each since the start says the base
  pub read : (first : List ℕ) → start.content ≡ Some first → IsSomeAnd (state journal.disk).content (FindsCeiling id total journal.last.0 first)
  pub durable : (first : List ℕ) → start.content ≡ Some first → (image : List ℕ) → (state journal.disk).images image → FindsCeiling id total journal.last.0 first image
  pub any_moment : (first : List ℕ) → start.content ≡ Some first → LeavesOnly start (state journal.disk) (FindsCeiling id total base first)
  -- names and room stay; the count doesn't fall, and a fault that is kept is a count that rose since the start
  pub chosen : (state journal.disk).chosen ≡ start.chosen
  pub room : (state journal.disk).room ≡ start.room
  pub later : start.faults ≤ (state journal.disk).faults
  pub still : journal.fault ≡ 0 → (state journal.disk).faults ≡ start.faults
  pub rose : journal.fault ≢ 0 → Rose start.faults journal.fault × (journal.fault ≤ (state journal.disk).faults)

-- why a ceiling is not raised: the journal's device failed in this call, or before; it is never full
abbrev pub CoverCause : ℕ → ℕ → ℕ → ℕ → JournalFault → Type 0
CoverCause fault fault_now before now Device = (fault ≡ 0) × Rose before now × (fault_now ≡ now) × (0 < fault_now)
CoverCause fault fault_now before now (Broken first) = (first ≡ fault) × (0 < fault) × (fault_now ≡ fault)
CoverCause fault fault_now before now (Full slots) = ⊥
