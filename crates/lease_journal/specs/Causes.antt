-- Why a journal refuses, and what stands in one that is kept.
use Rattle.std.specs.Prelude.{◌≡◌, ◌⊎◌, ℕ, ◌+◌, ◌*◌, ◌<◌, ◌≤◌, List, length, Option, Some, None, false, Result, OnOk, IsErrOf}
use Rattle.zk_port.specs.Counts.{Rose}
use Rattle.zk_port.specs.Disks.{DiskState}
use Rattle.zk_model.specs.declared.JournalKind.{JournalKind}
use Rattle.lease_journal.specs.declared.fault.StartFault.{StartFault}
use Rattle.lease_journal.specs.declared.fault.StartFault.TheVariants as start
use Rattle.lease_journal.specs.Journals.{IsTidy, Recovers, IsOpen, AreUsed, IsFirstBad, IsCut, body_at, last_body, slots_at}
use Rattle.lease_journal.specs.Twins.{HasMovedHeader, IsFirstMovedWrong, is_migrated}
use Rattle.lease_journal.specs.declared.fault.JournalFault.{JournalFault}
use Rattle.lease_journal.specs.declared.fault.JournalFault.TheVariants.{Device, Broken, Full}
use Rattle.zk_model.specs.declared.limits.TheConstants.{MAX_SLOTS}

-- a tidy journal of these bodies
pub record KeptAt (at slots : ℕ) (bodies : List (ℕ × ℕ)) (bytes : List ℕ) : Type 0 where
  pub tidy : IsTidy at slots bytes
  pub recovered : Recovers at slots bytes bodies

-- why a put is refused; only where the device failed is a fault kept in this call
abbrev pub PutCause : ℕ → ℕ → ℕ → ℕ → ℕ → ℕ → JournalFault → Type 0
PutCause slots used fault fault_now before now Device =
    (fault ≡ 0) × (used < slots) × Rose before now × (fault_now ≡ now) × (0 < fault_now)
PutCause slots used fault fault_now before now (Broken first) = (first ≡ fault) × (0 < fault) × (fault_now ≡ fault)
PutCause slots used fault fault_now before now (Full count) =
    (count ≡ slots) × (used ≡ slots) × (fault ≡ 0) × (fault_now ≡ fault)

-- why a body is not read
abbrev pub BodyCause : ℕ → ℕ → ℕ → ℕ → JournalFault → Type 0
BodyCause fault fault_now before now Device = (fault ≡ 0) × Rose before now × (fault_now ≡ now) × (0 < fault_now)
BodyCause fault fault_now before now (Broken first) = (first ≡ fault) × (0 < fault) × (fault_now ≡ fault)
BodyCause fault fault_now before now (Full count) = ⊥

-- the disk's count doesn't fall, rises where a fault of it is told, and stands still where all is well
pub record HasStartCause {T : Type 0} (before now : ℕ) (result : Result T StartFault) : Type 0 where
  pub later : before ≤ now
  pub device : IsErrOf result start.Device → Rose before now
  pub done : OnOk result (now ≡ before)

-- what was read of a slot: none where it is not open
abbrev pub SlotSays : ℕ → List ℕ → ℕ → Option (ℕ × ℕ) → Type 0
SlotSays at bytes slot None = (at + 32 * slot + 32 ≤ length bytes) × ¬ (IsOpen at bytes slot)
SlotSays at bytes slot (Some body) = IsOpen at bytes slot × (body ≡ body_at at bytes slot)

-- why a slot is not read
abbrev pub SlotCause : ℕ → ℕ → ℕ → List ℕ → StartFault → Type 0
SlotCause at slots slot bytes start.Device = Unit {0}
SlotCause at slots slot bytes (start.Short need got) =
    (need ≡ at + 32 * slots) × (got ≡ length bytes) × (length bytes < at + 32 * slot + 32)
SlotCause at slots slot bytes (start.BadHeader place) = ⊥
SlotCause at slots slot bytes (start.BadBody bad) = ⊥

-- what was read of the slots so far
pub record IsScanned (kind : JournalKind) (total at used : ℕ) (last : ℕ × ℕ) (bad : Option ℕ) (bytes : List ℕ) : Type 0 where
  pub opened : (slot : ℕ) → slot < used → IsOpen at bytes slot
  pub last_is : last ≡ last_body at bytes used
  pub first_bad : IsFirstBad kind total at bytes used bad

-- why the slots are not read to their end
abbrev pub ScanCause : ℕ → ℕ → List ℕ → StartFault → Type 0
ScanCause at slots bytes start.Device = Unit {0}
ScanCause at slots bytes (start.Short need got) = (need ≡ at + 32 * slots) × (got ≡ length bytes) × IsCut at slots bytes
ScanCause at slots bytes (start.BadHeader place) = ⊥
ScanCause at slots bytes (start.BadBody bad) = ⊥

-- Why a journal of one area is not read: the first of these that holds. No slot is judged of one that was migrated.
abbrev pub OneAreaCause : JournalKind → List ℕ → ℕ → List ℕ → StartFault → Type 0
OneAreaCause kind id total bytes start.Device = Unit {0}
OneAreaCause kind id total bytes (start.Short need got) =
    (got ≡ length bytes) × (((need ≡ 64) × (length bytes < 64))
    ⊎ ((need ≡ 64 + 32 * slots_at bytes) × HasMovedHeader kind id total bytes × (is_migrated kind bytes ≡ false) × IsCut 64 (slots_at bytes) bytes))
OneAreaCause kind id total bytes (start.BadHeader place) = IsFirstMovedWrong kind id total bytes place
OneAreaCause kind id total bytes (start.BadBody bad) =
    HasMovedHeader kind id total bytes × (is_migrated kind bytes ≡ false) × (¬ (IsCut 64 (slots_at bytes) bytes)) × (used : ℕ)
    × AreUsed 64 (slots_at bytes) used bytes × IsFirstBad kind total 64 bytes used (Some bad)

-- a number of slots that a header may say, where the content is told
abbrev pub SaysSlots : Option (List ℕ) → ℕ → Type 0
SaysSlots None slots = slots ≤ MAX_SLOTS
SaysSlots (Some bytes) slots = (slots ≡ slots_at bytes) × (slots ≤ MAX_SLOTS)

-- disks of this kind tell their content
abbrev pub Tells : {D : Type 0} → (D → DiskState) → Type 0
Tells {D} state = (disk : D) → (bytes : List ℕ) × ((state disk).content ≡ Some bytes)
