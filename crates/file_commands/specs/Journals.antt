-- What becomes of a journal over a run that opens it.
use Rattle.std.specs.Prelude.{◌≡◌, ◌≢◌, ◌⊎◌, ◌+◌, ◌≤◌, ◌++◌, ◌∷◌, [], ℕ, List, codes, Option, Some, IfSome, IsSomeAnd}
use Rattle.std.specs.Fmt.{decimal}
use Rattle.journal_migration.specs.Migrations.{moved_slots, one_area_end}
use Rattle.lease_journal.specs.Twins.{HoldsTwin, twin_length}
use Rattle.zk_model.specs.declared.JournalKind.{JournalKind}
use Rattle.zk_model.specs.declared.JournalKind.TheVariants.{Claims}
use Rattle.zk_model.specs.declared.Span.{Span}
use Rattle.zk_port.specs.Counts.{Rose}
use Rattle.zk_port.specs.Disks.{Choice, DiskState, Stays, LeavesOnly}
use Rattle.zk_port.specs.Images.{Only}
use Rattle.zk_port.specs.Logs.{appended, NotesOnce}
use Rattle.zk_port.specs.declared.access.Access.TheVariants.{Own, Read}
use Rattle.claim_store.specs.Causes.{StoreCause}
use Rattle.claim_store.specs.Claims.{SaysClaims}
use Rattle.claim_store.specs.declared.fault.StoreFault.TheVariants as store
use Rattle.lease_journal.specs.Causes.{SaysSlots}
use Rattle.lease_journal.specs.declared.fault.StartFault.{StartFault}
use Rattle.lease_journal.specs.declared.fault.StartFault.TheVariants as start
use Rattle.twin_journal.specs.Starts.{AreTidy, SaysTwinSlots}
use Rattle.lease_store.specs.Ceilings.{CeilingStartCause, FindsCeiling, SaysCeiling}
use Rattle.file_commands.specs.declared.refusal.Refusal.{Refusal}
use Rattle.file_commands.specs.declared.refusal.Refusal.TheVariants.{JournalFailed, JournalShort, JournalHeader, JournalBody, NoMemory}

-- the disk, before and after
pub record DiskChange : Type 1 where
  pub old : DiskState
  pub new : DiskState

abbrev pub disk_change : DiskState → DiskState → DiskChange
disk_change old new = record { old = old; new = new }

-- A disk on which a journal of either side may be opened, or migrated: where it tells its content and a journal of two areas stands in
-- that, in the area that counts no slot after the first closed one is open, as in a journal that stores alone have written; and it has room
-- for the slots that the header says, and behind a journal of one area for the journal that it is migrated to.
pub record IsJournalDisk (disk : DiskState) : Type 0 where
  pub tidy : (bytes : List ℕ) → disk.content ≡ Some bytes → AreTidy bytes
  pub room : (size : ℕ) → disk.room ≡ Some size → (kind : JournalKind) (begin slots : ℕ) → SaysTwinSlots kind disk.content begin slots
      → begin + twin_length slots ≤ size
  pub grown : (size : ℕ) → disk.room ≡ Some size → (kind : JournalKind) (total slots : ℕ) → SaysSlots disk.content slots
      → one_area_end slots + twin_length (moved_slots kind total slots) ≤ size

-- the name of a dealt file's journal
abbrev pub journal_name : List ℕ → List ℕ
journal_name file = file ++ codes ".journal"

-- the name of the journal of claims of a node that holds the file
abbrev pub node_journal_name : List ℕ → ℕ → List ℕ
node_journal_name file node = file ++ codes ".node." ++ decimal node

-- it is taken by this run alone, or for reads beside others
abbrev pub own_journal : List ℕ → Choice
own_journal file = (journal_name file, Own)

abbrev pub read_journal : List ℕ → Choice
read_journal file = (journal_name file, Read)

-- nothing is asked of the disk
pub record IsUntouched (disk : DiskChange) : Type 0 where
  pub chosen : disk.new.chosen ≡ disk.old.chosen
  pub stays : Stays disk.old disk.new
  pub still : disk.new.faults ≡ disk.old.faults

-- the file was chosen so, or at most asked for, and nothing is written
pub record OnlyReads (choice : Choice) (disk : DiskChange) : Type 0 where
  pub chosen : NotesOnce choice disk.old.chosen disk.new.chosen
  pub stays : Stays (record disk.old { chosen = disk.new.chosen }) disk.new
  pub later : disk.old.faults ≤ disk.new.faults

-- the file was chosen so, and its journal opened: nothing is written, no call failed, and a crash leaves the content
pub record OpensJournal (choice : Choice) (disk : DiskChange) : Type 0 where
  pub chosen : disk.new.chosen ≡ appended (choice ∷ []) disk.old.chosen
  pub stays : Stays (record disk.old { chosen = disk.new.chosen }) disk.new
  pub still : disk.new.faults ≡ disk.old.faults

-- The file was chosen so, and its journal of ceilings of this id and total was read and added to. Where the content was known,
-- it and each image say this ceiling or a higher one, which is no lower than the base, and what a crash might have left since then is what one might have left before, or
-- says the base or a higher one. With no mark the content says this very ceiling, a crash leaves the content, and no call of the disk failed;
-- a mark is the count of faults to which a call of the disk raised it.
pub record KeepsCeiling (choice : Choice) (id : List ℕ) (total base ceiling mark : ℕ) (disk : DiskChange) : Type 0 where
  pub chosen : disk.new.chosen ≡ appended (choice ∷ []) disk.old.chosen
  pub room : disk.new.room ≡ disk.old.room
  pub grows : base ≤ ceiling
  pub told : (bytes : List ℕ) → disk.new.content ≡ Some bytes → (first : List ℕ) × (disk.old.content ≡ Some first)
  pub read : (first : List ℕ) → disk.old.content ≡ Some first → IsSomeAnd disk.new.content (FindsCeiling id total ceiling first)
  pub durable : (first : List ℕ) → disk.old.content ≡ Some first → (image : List ℕ) → disk.new.images image
      → FindsCeiling id total ceiling first image
  pub any_moment : (first : List ℕ) → disk.old.content ≡ Some first
      → LeavesOnly disk.old disk.new (λ image. disk.old.images image ⊎ FindsCeiling id total base first image)
  pub exact : mark ≡ 0 → IfSome disk.new.content (SaysCeiling id total ceiling)
  pub only : mark ≡ 0 → Only disk.new.content disk.new.images
  pub still : mark ≡ 0 → disk.new.faults ≡ disk.old.faults
  pub rose : mark ≢ 0 → Rose disk.old.faults mark × (mark ≤ disk.new.faults)

-- the fault that a disk's content has as a journal of ceilings of this id and total, where it is known
abbrev pub IsCeilingsFault : List ℕ → ℕ → DiskState → StartFault → Type 0
IsCeilingsFault id total disk fault = (bytes : List ℕ) → disk.content ≡ Some bytes → CeilingStartCause id total bytes fault

-- the fault that a disk's content has as a journal of claims of this id and total, where it is known
abbrev pub IsClaimsFault : List ℕ → ℕ → DiskState → StartFault → Type 0
IsClaimsFault id total disk fault =
    (bytes : List ℕ) → disk.content ≡ Some bytes → StoreCause id total bytes (store.Journal fault)

-- why a journal is not opened: a call of the disk failed, whose count is this now; or the bytes that stand there are refused by this fault
abbrev pub JournalStop : (StartFault → Type 0) → DiskChange → Refusal → Type 0
JournalStop Cause disk (JournalFailed count) = (count ≡ disk.new.faults) × Rose disk.old.faults disk.new.faults
JournalStop Cause disk (JournalShort need got) = Cause (start.Short need got)
JournalStop Cause disk (JournalHeader place) = Cause (start.BadHeader place)
JournalStop Cause disk (JournalBody slot) = Cause (start.BadBody slot)
JournalStop Cause disk NoMemory = Unit {0}
JournalStop Cause disk stop = ⊥

-- what a start that is refused stops a run by, where the disk's calls have failed so often
abbrev pub start_refusal : StartFault → ℕ → Refusal
start_refusal start.Device count = JournalFailed count
start_refusal (start.Short need got) count = JournalShort need got
start_refusal (start.BadHeader place) count = JournalHeader place
start_refusal (start.BadBody slot) count = JournalBody slot

-- ---- journals that are whole

-- a journal of ceilings stands in the content, of this id and total, that leaves so many units
pub record LeavesUnits (id : List ℕ) (total units : ℕ) (content : Option (List ℕ)) : Type 0 where
  pub bytes : List ℕ
  pub known : content ≡ Some bytes
  pub base : ℕ
  pub says : SaysCeiling id total base bytes
  pub enough : base + units ≤ total

-- a journal of claims stands in the content, of this id and total
pub record HasClaims (id : List ℕ) (total : ℕ) (content : Option (List ℕ)) : Type 0 where
  pub bytes : List ℕ
  pub known : content ≡ Some bytes
  pub begin : ℕ
  pub slots : ℕ
  pub holds : HoldsTwin Claims id total begin slots bytes
  pub claims : List Span
  pub says : SaysClaims total begin slots claims bytes
