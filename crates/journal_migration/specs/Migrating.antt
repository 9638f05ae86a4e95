-- What a migration does to a disk, and why it is refused.
use Rattle.std.specs.Prelude.{◌≡◌, ◌≢◌, ◌⊎◌, ℕ, ◌+◌, ◌<◌, ◌≤◌, List, length, Option, None, Some, IfSome, Result, IfOk, IfErr, OnOk, true, nat_eq, if◌then◌else◌}
use Rattle.zk_port.specs.Disks.{DiskState, LeavesOnly, Stays}
use Rattle.zk_port.specs.Images.{HasDiskRoom, Only}
use Rattle.zk_model.specs.declared.JournalKind.{JournalKind}
use Rattle.zk_model.specs.declared.JournalKind.TheVariants.{Claims}
use Rattle.claim_store.specs.ClaimedRanges.{claims_of}
use Rattle.journal_migration.specs.Migrations.{SaysEither, SaysMoved, SaysOneArea, SaysTheSame, moved_slots, one_area_end}
use Rattle.lease_journal.specs.Journals.{are_slots}
use Rattle.lease_journal.specs.Twins.{HasMovedHeader, is_migrated, twin_length}
use Rattle.zk_model.specs.declared.limits.TheConstants.{MAX_SLOTS}
use Rattle.lease_core.specs.Spans.{AreApart, meets_any}
use Rattle.lease_journal.specs.Causes.{OneAreaCause}
use Rattle.lease_journal.specs.OneAreas.{IsOneArea}
use Rattle.lease_journal.specs.Scans.{HasRead}
use Rattle.lease_journal.specs.declared.fault.StartFault.TheVariants as start
use Rattle.twin_journal.specs.Laying.{HasAllBytes}
use Rattle.claim_store.specs.Causes.{HasReadCause}
use Rattle.claim_store.specs.Claims.{AreClaims, claim_at, first_claims}
use Rattle.claim_store.specs.declared.fault.StoreFault.{StoreFault}
use Rattle.claim_store.specs.declared.fault.StoreFault.TheVariants as store
use Rattle.journal_migration.specs.declared.Moved.{Moved}
use Rattle.journal_migration.specs.declared.Moved.TheVariants.{Done, Already}

-- The bytes are a journal of one area, and from now on a crash at any moment leaves what it could leave before, or a file that says the same
-- by whichever journal the gate names; the content and what a crash leaves in the end is such a file.
pub record MovesOn (kind : JournalKind) (id : List ℕ) (total : ℕ) (bytes : List ℕ) (old new : DiskState) : Type 0 where
  pub slots : ℕ
  pub bodies : List (ℕ × ℕ)
  pub next : List (ℕ × ℕ)
  pub was : SaysOneArea kind id total slots bodies bytes
  pub same : SaysTheSame kind bodies next
  pub any_moment : LeavesOnly old new (λ image. old.images image ⊎ SaysEither kind id total slots bodies (moved_slots kind total slots) next image)
  pub each : (image : List ℕ) → new.images image → SaysEither kind id total slots bodies (moved_slots kind total slots) next image
  pub read : IfSome new.content (SaysEither kind id total slots bodies (moved_slots kind total slots) next)

-- nothing is written, and a crash leaves what it could leave before; or the journal is moved on
abbrev pub MovesSafely : JournalKind → List ℕ → ℕ → List ℕ → DiskState → DiskState → Type 0
MovesSafely kind id total bytes old new = (Stays old new × LeavesOnly old new old.images) ⊎ MovesOn kind id total bytes old new

-- a journal of one area was in these bytes, and the content says the same with so many bodies in the area that counts now; each byte of the
-- new journal is written
pub record IsMigrationOver (kind : JournalKind) (id : List ℕ) (total : ℕ) (bytes : List ℕ) (used : ℕ) (new : DiskState) : Type 0 where
  pub slots : ℕ
  pub bodies : List (ℕ × ℕ)
  pub next : List (ℕ × ℕ)
  pub was : SaysOneArea kind id total slots bodies bytes
  pub same : SaysTheSame kind bodies next
  pub count : used ≡ length next
  pub now : IfSome new.content (SaysMoved kind id total slots (moved_slots kind total slots) next)
  pub all : IfSome new.content (HasAllBytes kind id total (one_area_end slots) (moved_slots kind total slots) next)

-- what the answer says
abbrev pub MovedSays : JournalKind → List ℕ → ℕ → List ℕ → DiskState → DiskState → Moved → Type 0
MovedSays kind id total bytes old new Already = HasMovedHeader kind id total bytes × (is_migrated kind bytes ≡ true) × Stays old new
MovedSays kind id total bytes old new (Done used) = IsMigrationOver kind id total bytes used new

-- a migration that is refused for another reason than a fault of the disk writes nothing
abbrev pub RefusesUnwritten : DiskState → DiskState → StoreFault → Type 0
RefusesUnwritten old new fault = fault ≢ store.Journal start.Device → Stays old new

-- the body of the last ceiling, where there is one
abbrev pub next_ceiling : ℕ → Option (ℕ × ℕ)
next_ceiling ceiling = if nat_eq ceiling 0 then None else Some (ceiling, 0)

-- the first open slot whose span has a unit of an earlier one: the journal itself is refused by no other reason
pub record HasMeeting (id : List ℕ) (total : ℕ) (bytes : List ℕ) (slot : ℕ) : Type 0 where
  pub slots : ℕ
  pub used : ℕ
  pub last : ℕ × ℕ
  pub stands : IsOneArea Claims id total slots used last bytes
  pub inside : slot < used
  pub before : AreClaims total (first_claims 64 slot bytes)
  pub meets : meets_any (claim_at 64 bytes slot) (first_claims 64 slot bytes) ≡ true

-- Why a journal is not migrated: its own reasons come first, the test for units in common last. Memory is asked for claims alone.
abbrev pub MigrationCause : JournalKind → List ℕ → ℕ → List ℕ → StoreFault → Type 0
MigrationCause kind id total bytes store.NoMemory = kind ≡ Claims
MigrationCause kind id total bytes (store.Journal start.Device) = Unit {0}
MigrationCause kind id total bytes (store.Journal (start.Short need got)) = OneAreaCause kind id total bytes (start.Short need got)
MigrationCause kind id total bytes (store.Journal (start.BadHeader place)) = OneAreaCause kind id total bytes (start.BadHeader place)
MigrationCause kind id total bytes (store.Journal (start.BadBody slot)) =
    OneAreaCause kind id total bytes (start.BadBody slot) ⊎ ((kind ≡ Claims) × HasMeeting id total bytes slot)

-- what was read of a journal of one area on a disk whose content is synced and that has room for the journal behind it
pub record IsThere (kind : JournalKind) (id : List ℕ) (total slots used : ℕ) (last : ℕ × ℕ) (disk : DiskState) : Type 0 where
  pub bounded : slots ≤ MAX_SLOTS
  pub within : used ≤ slots
  pub may_be : are_slots kind total slots ≡ true
  pub read : HasRead kind total used last
  pub stands : (bytes : List ℕ) → disk.content ≡ Some bytes → IsOneArea kind id total slots used last bytes
  pub synced : Only disk.content disk.images
  pub room : HasDiskRoom (one_area_end slots + twin_length (moved_slots kind total slots)) disk.room

-- a disk has these bytes, and in them stands a journal of one area, of so many slots, that says these bodies and ends at a place
pub record EndsAt (kind : JournalKind) (id : List ℕ) (total end slots : ℕ) (bodies : List (ℕ × ℕ)) (bytes : List ℕ) (disk : DiskState) : Type 0 where
  pub content : disk.content ≡ Some bytes
  pub place : end ≡ one_area_end slots
  pub says : SaysOneArea kind id total slots bodies bytes

-- what a call does that moves such a journal on, and says how many bodies the new one has
pub record MovesOver (kind : JournalKind) (id : List ℕ) (total : ℕ) (old new : DiskState) (result : Result ℕ StoreFault) : Type 0 where
  pub done : IfOk result (λ count. (bytes : List ℕ) → old.content ≡ Some bytes → IsMigrationOver kind id total bytes count new)
  pub moves : (bytes : List ℕ) → old.content ≡ Some bytes → MovesSafely kind id total bytes old new
  pub refused : IfErr result (RefusesUnwritten old new)
  pub durable : OnOk result (Only new.content new.images)
  pub chosen : new.chosen ≡ old.chosen
  pub cause : IfErr result (λ e. (bytes : List ℕ) → old.content ≡ Some bytes → MigrationCause kind id total bytes e)
  pub faults : HasReadCause old.faults new.faults result

-- ---- what may be migrated

-- A journal of one area that was not migrated says bodies that keep their rules, and no two claims of a prover's have a unit in common.
pub record IsSoundOneArea (kind : JournalKind) (id : List ℕ) (total : ℕ) (bytes : List ℕ) : Type 0 where
  pub slots : ℕ
  pub bodies : List (ℕ × ℕ)
  pub says : SaysOneArea kind id total slots bodies bytes
  pub apart : kind ≡ Claims → AreApart (claims_of bodies)

-- such a journal, or one that was migrated
abbrev pub MayMigrate : JournalKind → List ℕ → ℕ → List ℕ → Type 0
MayMigrate kind id total bytes =
    IsSoundOneArea kind id total bytes ⊎ (HasMovedHeader kind id total bytes × (is_migrated kind bytes ≡ true))

-- it is refused only where the disk fails or memory runs out
abbrev pub SoundIsMigrated : Type 0
SoundIsMigrated =
    (kind : JournalKind) (id : List ℕ) (total : ℕ) (bytes : List ℕ) (fault : StoreFault) → MayMigrate kind id total bytes
    → MigrationCause kind id total bytes fault → (fault ≡ store.Journal start.Device) ⊎ (fault ≡ store.NoMemory)
