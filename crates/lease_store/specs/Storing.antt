-- What a journal of ceilings stores as it stands, and what storing one ceiling more does to it.
use Rattle.std.specs.Prelude.{◌≡◌, ℕ, ◌+◌, ◌*◌, ◌^◌, ◌<◌, ◌≤◌, true, List, Some, Result, IfSome, IfErr, OnOk, OnErr}
use Rattle.zk_port.specs.Disks.{DiskState, LeavesOnly}
use Rattle.zk_port.specs.Images.{Only}
use Rattle.zk_model.specs.declared.JournalKind.TheVariants.{Ceilings}
use Rattle.zk_model.specs.declared.limits.TheConstants.{MAX_STORE_UNITS}
use Rattle.lease_journal.specs.Journals.{keeps_rule}
use Rattle.lease_journal.specs.Twins.{SaysOldOrNew, twin_ceiling_slots}
use Rattle.lease_journal.specs.declared.fault.JournalFault.{JournalFault}
use Rattle.lease_journal.specs.Keeps.{ChangesAt}
use Rattle.twin_journal.specs.States.{IsKept, TwinState}
use Rattle.lease_store.specs.Ceilings.{FindsCeiling}
use Rattle.lease_store.specs.Desks.{CoverCause, IsKeptAt}
use Rattle.lease_store.specs.Raising.{after_ceiling, are_all_used, raised_bodies, raised_generation}

-- An open journal of ceilings of this total stores this ceiling: its last is this one or a higher one. Where its disk tells its content,
-- this says the last ceiling or a higher one, and so does each image that a crash may leave now, of the same id, beginning at the same
-- place. While no call of the disk has failed, the content says exactly the last ceiling, and a crash leaves the content.
pub record Stores {D : Type 0} (state : D → DiskState) (total : ℕ) (journal : TwinState D) (ceiling : ℕ) : Type 0 where
  pub id : List ℕ
  pub few : total ≤ MAX_STORE_UNITS
  pub low : journal.last.0 ≤ total
  pub slots_are : journal.slots ≡ twin_ceiling_slots total
  pub reaches : ceiling ≤ journal.last.0
  pub kept : journal.fault ≡ 0 → (bytes : List ℕ) → (state journal.disk).content ≡ Some bytes → IsKeptAt state id total journal bytes
  pub only : journal.fault ≡ 0 → Only (state journal.disk).content (state journal.disk).images
  pub read : (bytes : List ℕ) → (state journal.disk).content ≡ Some bytes → FindsCeiling id total journal.last.0 bytes bytes
  pub each : (bytes : List ℕ) → (state journal.disk).content ≡ Some bytes → (image : List ℕ) → (state journal.disk).images image
      → FindsCeiling id total journal.last.0 bytes image

-- this ceiling may follow the last one
pub record CeilingMayFollow (total last ceiling : ℕ) : Type 0 where
  pub low : ceiling ≤ total
  pub above : last < ceiling
  pub rule : keeps_rule Ceilings total last (ceiling, 0) ≡ true

-- a crash at each moment from the first journal to the second leaves this ceiling or a higher one
abbrev pub LeavesCeiling : {D : Type 0} → (D → DiskState) → ℕ → TwinState D → TwinState D → ℕ → Type 0
LeavesCeiling state total old now ceiling =
    (bytes : List ℕ) → (state old.disk).content ≡ Some bytes
    → (id : List ℕ) × LeavesOnly (state old.disk) (state now.disk) (FindsCeiling id total ceiling bytes)

-- what storing this ceiling does to a journal, by its answer: it is put there, or alone stands there; or the journal keeps the fault
pub record Moved {D : Type 0} (state : D → DiskState) (old : TwinState D) (ceiling : ℕ) (result : Result (Unit {0}) JournalFault) (now : TwinState D) : Type 0 where
  pub any_moment : (bytes : List ℕ) (bodies : List (ℕ × ℕ)) → IsKept state old bodies bytes → old.generation + 1 < 2 ^ 64
      → LeavesOnly (state old.disk) (state now.disk) (SaysOldOrNew old.begin old.slots old.generation bodies
      (raised_generation (are_all_used old) old.generation) (raised_bodies (are_all_used old) bodies (ceiling, 0)))
  pub read : (bytes : List ℕ) (bodies : List (ℕ × ℕ)) → IsKept state old bodies bytes → old.generation + 1 < 2 ^ 64
      → IfSome (state now.disk).content (SaysOldOrNew old.begin old.slots old.generation bodies
      (raised_generation (are_all_used old) old.generation) (raised_bodies (are_all_used old) bodies (ceiling, 0)))
  pub recovered : OnOk result ((bytes : List ℕ) (bodies : List (ℕ × ℕ)) → IsKept state old bodies bytes → old.generation + 1 < 2 ^ 64
      → IfSome (state now.disk).content (IsKept state now (raised_bodies (are_all_used old) bodies (ceiling, 0))))
  pub durable : OnOk result (Only (state now.disk).content (state now.disk).images)
  pub state_is : OnOk result (now ≡ after_ceiling (are_all_used old) old now.disk ceiling)
  pub state_kept : OnErr result (now ≡ record old { disk = now.disk; fault = now.fault })
  pub changes : ChangesAt (old.begin + 64) (64 * (old.slots + 1)) (state old.disk) (state now.disk)
  pub faults : OnOk result ((state now.disk).faults ≡ (state old.disk).faults)
  pub faults_grow : (state old.disk).faults ≤ (state now.disk).faults
  pub cause : IfErr result (CoverCause old.fault now.fault (state old.disk).faults (state now.disk).faults)
  pub unserved : OnErr result (now.fault ≡ old.fault → now.disk ≡ old.disk)
  pub served : OnOk result (old.fault ≡ 0)
