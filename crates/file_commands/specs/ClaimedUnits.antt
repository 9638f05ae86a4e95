-- What becomes of a journal of claims over a run that opens it.
use Rattle.std.specs.Prelude.{◌≡◌, ◌⊎◌, ◌+◌, ◌∷◌, [], ◌++◌, ◌<◌, ℕ, List, Option, None, Some, IsSomeAnd, Result, Ok, Err}
use Rattle.claim_store.specs.ClaimedRanges.{AreMerged, RiseFrom}
use Rattle.lease_journal.specs.Twins.{HoldsTwin}
use Rattle.zk_model.specs.declared.JournalKind.TheVariants as kind
use Rattle.zk_model.specs.declared.Span.{Span}
use Rattle.zk_port.specs.Counts.{Rose}
use Rattle.zk_port.specs.Disks.{Choice, DiskState, LeavesOnly}
use Rattle.zk_port.specs.Logs.{appended}
use Rattle.lease_core.specs.Spans.{span}
use Rattle.claim_store.specs.Causes.{AreMore}
use Rattle.claim_store.specs.Claims.{AreClaims, AreInUse, SaysClaims, first_met}
use Rattle.claim_store.specs.declared.ClaimFault.{ClaimFault}
use Rattle.claim_store.specs.declared.ClaimFault.TheVariants.{Broken, OutOfRange, Overlap, Full, Device, NoMemory}
use Rattle.file_commands.specs.Journals.{DiskChange}

-- Where a journal is in its file: where it begins, and how many slots an area has.
pub record JournalPlace : Type 0 where
  pub begin : ℕ
  pub slots : ℕ

-- a journal of claims of this id and total stands there in these bytes, and says these ranges
pub record FindsClaims (id : List ℕ) (total : ℕ) (place : JournalPlace) (claims : List Span) (bytes : List ℕ) : Type 0 where
  pub holds : HoldsTwin kind.Claims id total place.begin place.slots bytes
  pub says : SaysClaims total place.begin place.slots claims bytes

-- it says the ranges of these and of one span more
pub record FindsMore (id : List ℕ) (total : ℕ) (place : JournalPlace) (claims : List Span) (s : Span) (bytes : List ℕ) : Type 0 where
  pub ranges : List Span
  pub merged : AreMerged (claims ++ s ∷ []) ranges
  pub finds : FindsClaims id total place ranges bytes

-- the content and each image of a disk have P
pub record AllHave (P : List ℕ → Type 0) (disk : DiskState) : Type 0 where
  pub read : IsSomeAnd disk.content P
  pub durable : (image : List ℕ) → disk.images image → P image

-- the units that were asked for
abbrev pub asked_span : ℕ × ℕ → Span
asked_span units = span units.0 (units.0 + units.1)

-- these bytes say the claims, or those and the units that were asked for
abbrev pub MayFind : List ℕ → ℕ → JournalPlace → List Span → ℕ × ℕ → List ℕ → Type 0
MayFind id total place claims units bytes =
    FindsClaims id total place claims bytes ⊎ FindsMore id total place claims (asked_span units) bytes

-- What the disk says once it was answered so about these units: the claims with them where they were claimed; the one or the other where
-- the disk failed; the claims as they were where they were refused.
abbrev pub LeavesClaims : List ℕ → ℕ → JournalPlace → List Span → ℕ × ℕ → Result Span ClaimFault → DiskState → Type 0
LeavesClaims id total place claims units (Ok claimed) disk = AllHave (FindsMore id total place claims claimed) disk
LeavesClaims id total place claims units (Err Device) disk = AllHave (MayFind id total place claims units) disk
LeavesClaims id total place claims units (Err fault) disk = AllHave (FindsClaims id total place claims) disk

-- Why the units were claimed, or refused: they are free, and the claim is of these; a call of the disk failed; they end above the total;
-- this range of earlier claims has one of them; all slots are in use, and the ranges with them are more; memory was missing.
abbrev pub AnswersClaim : ℕ → ℕ → ℕ → List Span → ℕ × ℕ → Result Span ClaimFault → DiskChange → Type 0
AnswersClaim total slots used claims units (Ok claimed) disk = (claimed ≡ asked_span units)
    × AreClaims total (claims ++ claimed ∷ []) × (disk.new.faults ≡ disk.old.faults)
AnswersClaim total slots used claims units (Err Device) disk = Rose disk.old.faults disk.new.faults
AnswersClaim total slots used claims units (Err (Broken first)) disk = ⊥
AnswersClaim total slots used claims units (Err (OutOfRange end)) disk =
    (end ≡ total) × (total < units.0 + units.1) × (disk.new.faults ≡ disk.old.faults)
AnswersClaim total slots used claims units (Err (Overlap earlier)) disk =
    (first_met (asked_span units) claims ≡ Some earlier) × (disk.new.faults ≡ disk.old.faults)
AnswersClaim total slots used claims units (Err (Full count)) disk =
    (count ≡ slots) × (used ≡ slots) × AreMore slots claims (asked_span units) × (disk.new.faults ≡ disk.old.faults)
AnswersClaim total slots used claims units (Err NoMemory) disk = disk.new.faults ≡ disk.old.faults

-- what a claim that was asked for, and answered so, did; a crash at any moment leaves what one might have left before, or a journal of this
-- id and total that says the claims, or those and the units
pub record MovesClaims (id : List ℕ) (total : ℕ) (place : JournalPlace) (used : ℕ) (claims : List Span) (units : ℕ × ℕ)
    (answer : Result Span ClaimFault) (disk : DiskChange) : Type 0 where
  pub cause : AnswersClaim total place.slots used claims units answer disk
  pub left : (first : List ℕ) → disk.old.content ≡ Some first → LeavesClaims id total place claims units answer disk.new
  pub any_moment : (first : List ℕ) → disk.old.content ≡ Some first
      → LeavesOnly disk.old disk.new (λ image. disk.old.images image ⊎ MayFind id total place claims units image)

-- nothing was asked for, and nothing has moved
pub record LeavesAll (id : List ℕ) (total : ℕ) (place : JournalPlace) (claims : List Span) (disk : DiskChange) : Type 0 where
  pub left : (first : List ℕ) → disk.old.content ≡ Some first → AllHave (FindsClaims id total place claims) disk.new
  pub any_moment : LeavesOnly disk.old disk.new disk.old.images
  pub still : disk.new.faults ≡ disk.old.faults

-- by what was asked for and answered
abbrev pub MovesBy : List ℕ → ℕ → JournalPlace → ℕ → List Span → Option (ℕ × ℕ) → Option (Result Span ClaimFault) → DiskChange → Type 0
MovesBy id total place used claims asked None disk = LeavesAll id total place claims disk
MovesBy id total place used claims asked (Some answer) disk =
    IsSomeAnd asked (λ units. MovesClaims id total place used claims units answer disk)

-- The file was chosen so, and its journal of claims of this id and total was read, which has these ranges, of which no two touch,
-- in so many slots; it was added to as was asked for and answered.
pub record KeepsClaims (choice : Choice) (id : List ℕ) (total : ℕ) (asked : Option (ℕ × ℕ)) (answer : Option (Result Span ClaimFault)) (disk : DiskChange)
    : Type 0 where
  pub chosen : disk.new.chosen ≡ appended (choice ∷ []) disk.old.chosen
  pub room : disk.new.room ≡ disk.old.room
  pub place : JournalPlace
  pub used : ℕ
  pub claims : List Span
  pub sound : AreClaims total claims
  pub rising : RiseFrom 0 claims
  pub in_use : (first : List ℕ) → disk.old.content ≡ Some first → AreInUse place.begin place.slots used first
  pub recovered : (first : List ℕ) → disk.old.content ≡ Some first → FindsClaims id total place claims first
  pub moved : MovesBy id total place used claims asked answer disk
