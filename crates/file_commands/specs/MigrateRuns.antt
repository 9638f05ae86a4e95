-- `migrate SIDE FILE`: what it does to the file's journal and says, and what it promises of its run.
use Rattle.std.specs.Prelude.{◌≡◌, ◌≢◌, ◌⊎◌, ◌≤◌, ◌++◌, ◌∷◌, [], ℕ, List, codes, Option, None, Some}
use Rattle.std.specs.Fmt.{decimal}
use Rattle.zk_model.specs.Files.{ProverFile, VerifierFile}
use Rattle.zk_model.specs.declared.JournalKind.{JournalKind}
use Rattle.zk_model.specs.declared.JournalKind.TheVariants.{Claims, Ceilings}
use Rattle.zk_model.specs.declared.Side.{Side}
use Rattle.zk_model.specs.declared.Side.TheVariants.{Prover, Verifier}
use Rattle.zk_port.specs.Counts.{Rose}
use Rattle.zk_port.specs.Disks.{Choice, DiskState, Stays}
use Rattle.zk_port.specs.Files.{Files}
use Rattle.zk_port.specs.Images.{Only}
use Rattle.zk_port.specs.Logs.{appended, NotesOnce}
use Rattle.lease_journal.specs.declared.fault.StartFault.{StartFault}
use Rattle.claim_store.specs.declared.fault.StoreFault.TheVariants as store
use Rattle.journal_migration.specs.Migrating.{MayMigrate, MigrationCause, MovedSays, MovesSafely}
use Rattle.journal_migration.specs.declared.Moved.{Moved}
use Rattle.journal_migration.specs.declared.Moved.TheVariants.{Done, Already}
use Rattle.dealer_files.specs.Faults.{IsDealtFile}
use Rattle.command_words.specs.Words.{MigrateAsk}
use Rattle.file_commands.specs.Effects.{ShelfChange, SinkFailed, Effects, OnlyLoads, IsName, HasFailed, IsDone}
use Rattle.file_commands.specs.Journals.{DiskChange, IsUntouched, JournalStop, own_journal}
use Rattle.file_commands.specs.Stops.{PrintsMade, WritesAll, SaysStop, IsOfStop, HasText, FileStop, IsProverFileAt, IsVerifierFileAt}
use Rattle.file_commands.specs.declared.migrate_command.DealtUnits.{DealtUnits}
use Rattle.file_commands.specs.declared.refusal.Refusal.{Refusal}
use Rattle.file_commands.specs.declared.refusal.Refusal.TheVariants.{JournalFailed}

-- the kind of journal that a side keeps
abbrev pub journal_kind : Side → JournalKind
journal_kind Prover = Claims
journal_kind Verifier = Ceilings

-- where a shelf tells, a dealt file of this side with this id and so many units stands under the name
abbrev pub IsDealtAt : Side → Option Files → List ℕ → DealtUnits → Type 0
IsDealtAt Prover told name dealt =
    (file : ProverFile) × IsProverFileAt told name file × (dealt.id ≡ file.id) × (dealt.total ≡ file.params.total)
IsDealtAt Verifier told name dealt =
    (file : VerifierFile) × IsVerifierFileAt told name file × (dealt.id ≡ file.id) × (dealt.total ≡ file.params.total)

-- ---- what becomes of the journal

-- the disk as it was, but for the files that are chosen now
abbrev pub once_chosen : DiskChange → DiskState
once_chosen disk = record disk.old { chosen = disk.new.chosen }

-- The file was chosen so, or at most asked for, and no other. Where its content was known, nothing is written, and a crash leaves what it
-- could leave before; or its journal of one area is moved on: at every moment a crash leaves what it could leave before, or a file that says
-- the same by whichever journal its gate names.
pub record MovesJournal (choice : Choice) (kind : JournalKind) (dealt : DealtUnits) (disk : DiskChange) : Type 0 where
  pub chosen : NotesOnce choice disk.old.chosen disk.new.chosen
  pub moves : (bytes : List ℕ) → disk.old.content ≡ Some bytes
      → MovesSafely kind dealt.id dealt.total bytes (once_chosen disk) disk.new
  pub later : disk.old.faults ≤ disk.new.faults

-- The file was chosen so, and its journal is migrated, now or before, as the answer says; no call failed, and a crash leaves
-- the content.
pub record MigratesJournal (choice : Choice) (kind : JournalKind) (dealt : DealtUnits) (disk : DiskChange) (moved : Moved) : Type 0 where
  pub chosen : disk.new.chosen ≡ appended (choice ∷ []) disk.old.chosen
  pub says : (bytes : List ℕ) → disk.old.content ≡ Some bytes
      → MovedSays kind dealt.id dealt.total bytes (once_chosen disk) disk.new moved
  pub moves : (bytes : List ℕ) → disk.old.content ≡ Some bytes
      → MovesSafely kind dealt.id dealt.total bytes (once_chosen disk) disk.new
  pub only : Only disk.new.content disk.new.images
  pub still : disk.new.faults ≡ disk.old.faults

-- ---- why nothing is migrated

-- the fault that a disk's content has as a journal of one area, where it is known
abbrev pub IsMigrationFault : JournalKind → DealtUnits → DiskState → StartFault → Type 0
IsMigrationFault kind dealt disk fault =
    (bytes : List ℕ) → disk.content ≡ Some bytes → MigrationCause kind dealt.id dealt.total bytes (store.Journal fault)

-- why the journal of a dealt file is not migrated, and what becomes of it: nothing is written but where the disk failed
pub record MigrationStop (ask : MigrateAsk) (dealt : DealtUnits) (disk : DiskChange) (stop : Refusal) : Type 0 where
  pub moves : MovesJournal (own_journal ask.file) (journal_kind ask.side) dealt disk
  pub refused : ((count : ℕ) → stop ≢ JournalFailed count) → Stays (once_chosen disk) disk.new
  pub cause : JournalStop (IsMigrationFault (journal_kind ask.side) dealt disk.old) disk stop

-- Why nothing is migrated, the first of these: there is no dealt file of this side under the name, and nothing is asked of the disk; or there
-- is, and its journal is refused, or the disk failed.
abbrev pub MigrateStop : MigrateAsk → ShelfChange → DiskChange → Refusal → Type 0
MigrateStop ask shelf disk stop =
    (FileStop ask.side ask.file shelf stop × IsUntouched disk)
    ⊎ ((dealt : DealtUnits) × IsDealtAt ask.side shelf.old.told ask.file dealt × MigrationStop ask dealt disk stop)

-- ---- what is said

-- how many slots are in use of the area that counts now, or that the journal was migrated before
abbrev pub moved_line : Moved → List ℕ
moved_line (Done used) = codes "migrated " ++ decimal used ++ codes "\n"
moved_line Already = codes "already migrated\n"

-- the journal of the dealt file under the name is migrated, as the answer says
pub record HasMigrated (ask : MigrateAsk) (told : Option Files) (disk : DiskChange) (moved : Moved) : Type 0 where
  pub dealt : DealtUnits
  pub file : IsDealtAt ask.side told ask.file dealt
  pub journal : MigratesJournal (own_journal ask.file) (journal_kind ask.side) dealt disk moved

-- the journal is migrated, and its line is written; or that of a stop is, which has its cause
abbrev pub MigrateLines : MigrateAsk → DiskChange → Effects → Type 0
MigrateLines ask disk run =
    ((moved : Moved) × HasMigrated ask run.shelf.old.told disk moved × PrintsMade 0 (moved_line moved) run.status run.sink)
    ⊎ SaysStop (MigrateStop ask run.shelf disk) run

-- What the status says. 0: the journal is migrated, now or before, and its line is written; else the cause of a stop with that status;
-- or 4: the sink failed; or 7: no memory.
abbrev pub MigrateMeans : MigrateAsk → DiskChange → Effects → Type 0
MigrateMeans ask disk run =
    ((run.status ≡ 0) × (moved : Moved) × HasMigrated ask run.shelf.old.told disk moved × WritesAll (moved_line moved) run.sink)
    ⊎ IsOfStop (MigrateStop ask run.shelf disk) run.status
    ⊎ ((run.status ≡ 4) × SinkFailed run.sink)
    ⊎ (run.status ≡ 7)

-- ---- when all is done

-- a shelf that tells has a dealt file of this side under the name, and the disk a journal of its id and total that may be migrated
pub record IsMigratable (told : Option Files) (disk : DiskState) (ask : MigrateAsk) : Type 0 where
  pub tells : told ≢ None
  pub file : HasText told ask.file (IsDealtFile ask.side)
  pub bytes : List ℕ
  pub known : disk.content ≡ Some bytes
  pub journal : (dealt : DealtUnits) → IsDealtAt ask.side told ask.file dealt
      → MayMigrate (journal_kind ask.side) dealt.id dealt.total bytes

-- a call failed: one of the shelf for the file, one of the sink or of the disk
abbrev pub HasMigrateFailed : MigrateAsk → DiskChange → Effects → Type 0
HasMigrateFailed ask disk run = HasFailed (IsName ask.file) run ⊎ Rose disk.old.faults disk.new.faults

-- The journal of the dealt file is migrated, now or before, and that is said; or the line of a stop with its cause is. Nothing but the dealt
-- file is asked of the shelf, and no file but its journal of the disk. What the status says; and all is done where the dealt file and
-- a journal that may be migrated stand there, and nothing fails.
pub record Migrates (ask : MigrateAsk) (disk : DiskChange) (run : Effects) : Type 0 where
  pub lines : MigrateLines ask disk run
  pub kept : OnlyLoads (IsName ask.file) run.shelf
  pub statuses : (run.status ≡ 0) ⊎ (run.status ≡ 3) ⊎ (run.status ≡ 4) ⊎ (run.status ≡ 5) ⊎ (run.status ≡ 7)
  pub means : MigrateMeans ask disk run
  pub done : IsMigratable run.shelf.old.told disk.old ask → ¬ HasMigrateFailed ask disk run → IsDone run.status
