-- What a migration does to a disk whose file was chosen before.
use Rattle.std.proofs.Common.{◌≡◌, ◌≤◌, ℕ, List, Option, Some, refl, sym, ◌∙◌, subst, inl, inr, arith}
use Rattle.std.specs.Prelude.{◌≢◌}
use Rattle.lease_journal.specs.declared.fault.StartFault.{StartFault}
use Rattle.lease_journal.specs.declared.fault.StartFault.TheVariants as start
use Rattle.zk_model.specs.declared.JournalKind.{JournalKind}
use Rattle.zk_port.specs.Disks.{Choice, DiskState, Stays}
use Rattle.zk_port.specs.Images.{Only}
use Rattle.lease_journal.proofs.Moments.{stays_leaves, stays_then}
use Rattle.claim_store.specs.declared.fault.StoreFault.TheVariants as store
use Rattle.journal_migration.specs.Migrating.{MovedSays, MovesSafely}
use Rattle.journal_migration.specs.declared.Moved.{Moved}
use Rattle.journal_migration.specs.declared.Moved.TheVariants.{Done, Already}
use Rattle.journal_migration.proofs.BehindIt.{moves_after}
use Rattle.file_commands.specs.Journals.{OnlyReads, OpensJournal, disk_change, start_refusal}
use Rattle.file_commands.specs.declared.refusal.Refusal.TheVariants.{JournalFailed}
use Rattle.file_commands.specs.MigrateRuns.{MigratesJournal, MovesJournal, once_chosen}
use Rattle.file_commands.specs.declared.migrate_command.DealtUnits.{DealtUnits}

-- each image now is one since each moment, and since now there is no other
abbrev pub CountsNow : DiskState → Type 0
CountsNow disk = (t : ℕ) (image : List ℕ) → t ≤ disk.moment → disk.images image → disk.images_since t image

abbrev pub OnlyNow : DiskState → Type 0
OnlyNow disk = (image : List ℕ) → disk.images_since disk.moment image → disk.images image

-- nothing was written
pub reads_moves : (choice : Choice) (kind : JournalKind) (dealt : DealtUnits) (old new : DiskState) → OnlyNow old
    → OnlyReads choice (disk_change old new) → MovesJournal choice kind dealt (disk_change old new)
reads_moves choice kind dealt old new only reads = record {
  chosen = reads.chosen;
  moves = λ bytes known. inl (reads.stays, stays_leaves only reads.stays);
  later = reads.later;
}

module _ (kind : JournalKind) (id : List ℕ) (total : ℕ) (bytes : List ℕ) (old mid new : DiskState) (counts : CountsNow old)
    (stays : Stays (record old { chosen = mid.chosen }) mid) (same : new.chosen ≡ mid.chosen) where
  pub moves_chosen : OnlyNow old → MovesSafely kind id total bytes mid new → MovesSafely kind id total bytes (once_chosen (disk_change old new)) new
  moves_chosen only moves =
      subst (λ (c : Option (List Choice)). MovesSafely kind id total bytes (record old { chosen = c }) new) (sym same)
      (moves_after kind id total bytes counts only stays moves)

  pub says_chosen : (moved : Moved) → MovedSays kind id total bytes mid new moved → MovedSays kind id total bytes (once_chosen (disk_change old new)) new moved
  says_chosen Already says = (
    says.0,
    says.1,
    subst (λ (c : Option (List Choice)). Stays (record old { chosen = c }) new) (sym same)
        (stays_then counts stays says.2),
  )
  says_chosen (Done used) says = says

-- nothing was written after the file was chosen
pub stays_chosen : (old mid new : DiskState) → CountsNow old → Stays (record old { chosen = mid.chosen }) mid → new.chosen ≡ mid.chosen → Stays mid new
    → Stays (once_chosen (disk_change old new)) new
stays_chosen old mid new counts stays same still =
    subst (λ (c : Option (List Choice)). Stays (record old { chosen = c }) new) (sym same) (stays_then counts stays still)

-- a stop that is none of the disk's failing is of a fault that is none
pub not_device : (fault : StartFault) (count : ℕ) → ((other : ℕ) → start_refusal fault count ≢ JournalFailed other) → fault ≢ start.Device
not_device start.Device count other is = other count refl
not_device (start.Short need got) count other is = absurd (cc is)
not_device (start.BadHeader place) count other is = absurd (cc is)
not_device (start.BadBody slot) count other is = absurd (cc is)

pub journal_fault : (fault : StartFault) → store.Journal fault ≡ store.Journal start.Device → fault ≡ start.Device
journal_fault fault is = cc is

pub no_journal : store.NoMemory ≡ store.Journal start.Device → ⊥
no_journal is = cc is

-- ---- the journal that was chosen
module _ (choice : Choice) (kind : JournalKind) (dealt : DealtUnits) (old mid new : DiskState) (counts : CountsNow old) (only : OnlyNow old)
    (opens : OpensJournal choice (disk_change old mid)) (same : new.chosen ≡ mid.chosen)
    (moves : (bytes : List ℕ) → mid.content ≡ Some bytes → MovesSafely kind dealt.id dealt.total bytes mid new) where
  moves_since : (bytes : List ℕ) → old.content ≡ Some bytes → MovesSafely kind dealt.id dealt.total bytes (once_chosen (disk_change old new)) new
  moves_since bytes known = moves_chosen kind dealt.id dealt.total bytes old mid new counts opens.stays same only (moves bytes (opens.stays.content ∙ known))

  -- it is refused
  pub moves_journal : mid.faults ≤ new.faults → MovesJournal choice kind dealt (disk_change old new)
  moves_journal later = record {
    chosen = inr (same ∙ opens.chosen);
    moves = moves_since;
    later = let still = opens.still in omega (arith, still, later);
  }

  -- it is migrated
  pub migrates_journal : (moved : Moved) → ((bytes : List ℕ) → mid.content ≡ Some bytes → MovedSays kind dealt.id dealt.total bytes mid new moved)
      → Only new.content new.images → new.faults ≡ mid.faults → MigratesJournal choice kind dealt (disk_change old new) moved
  migrates_journal moved says durable still = record {
    chosen = same ∙ opens.chosen;
    says = λ bytes known. says_chosen kind dealt.id dealt.total bytes old mid new counts opens.stays same moved (says bytes (opens.stays.content ∙ known));
    moves = moves_since;
    only = durable;
    still = still ∙ opens.still;
  }
