-- Journals that are opened, or refused, and what is kept of them.
use Rattle.std.proofs.Common.{◌≡◌, ◌⊎◌, ◌≤◌, ◌∷◌, [], ℕ, List, refl, sym, ◌∙◌, subst, inl, inr, arith, Some}
use Rattle.zk_port.specs.Counts.{Rose}
use Rattle.zk_port.specs.Disks.{Choice, DiskState, LeavesOnly, Stays}
use Rattle.zk_port.specs.Logs.{appended}
use Rattle.lease_journal.proofs.Moments.{stays_then}
use Rattle.lease_journal.specs.declared.fault.StartFault.{StartFault}
use Rattle.lease_journal.specs.declared.fault.StartFault.TheVariants as start
use Rattle.lease_words.specs.declared.pass.Pass.{Pass}
use Rattle.lease_store.specs.Ceilings.{FindsCeiling}
use Rattle.lease_store.specs.Leases.{IsClosed}
use Rattle.file_commands.specs.Journals.{DiskChange, IsUntouched, JournalStop, OpensJournal, OnlyReads, KeepsCeiling, disk_change, start_refusal}

-- a start that is refused has its cause
pub stops_start : (Cause : StartFault → Type 0) (disk : DiskChange) (fault : StartFault) (count : ℕ) → count ≡ disk.new.faults
    → Cause fault → (fault ≡ start.Device → Rose disk.old.faults disk.new.faults) → JournalStop Cause disk (start_refusal fault count)
stops_start Cause disk start.Device count counted cause device = (counted, device refl)
stops_start Cause disk (start.Short need got) count counted cause device = cause
stops_start Cause disk (start.BadHeader place) count counted cause device = cause
stops_start Cause disk (start.BadBody slot) count counted cause device = cause

-- a mark to which a count rose says that the count rose
pub rose_by : (before mark now : ℕ) → Rose before mark × (mark ≤ now) → Rose before now
rose_by before mark now rose = omega (arith, rose.0, rose.1)

-- a disk of which nothing is asked
pub untouched : (disk : DiskState) → IsUntouched (disk_change disk disk)
untouched disk = record {
  chosen = refl;
  stays = record {
    chosen = refl;
    content = refl;
    room = refl;
    crash = λ image some. some;
    time = record { later = omega arith; nothing_else = λ t image earlier some. inl some; keeps = λ t image earlier some. some };
  };
  still = refl;
}

-- a file that is chosen, and whose journal is then read
pub opens_then : (choice : Choice) {old middle new : DiskState} → ((t : ℕ) (c : List ℕ) → t ≤ old.moment → old.images c → old.images_since t c)
    → middle.chosen ≡ appended (choice ∷ []) old.chosen → Stays (record old { chosen = middle.chosen }) middle → middle.faults ≡ old.faults
    → Stays middle new → new.faults ≡ middle.faults → OpensJournal choice (disk_change old new)
opens_then choice counts chosen takes no_fault reads none =
    let stays = stays_then counts takes reads in
    record {
      chosen = reads.chosen ∙ chosen;
      stays = record {
        chosen = refl;
        content = stays.content;
        room = stays.room;
        crash = stays.crash;
        time = record { later = stays.time.later; nothing_else = stays.time.nothing_else; keeps = stays.time.keeps };
      };
      still = none ∙ no_fault;
    }

-- a journal that is opened is read alone
pub opened_is_read : (choice : Choice) (disk : DiskChange) → OpensJournal choice disk → OnlyReads choice disk
opened_is_read choice disk opens = record {
  chosen = inr opens.chosen;
  stays = opens.stays;
  later = let still = opens.still in omega (arith, still);
}

-- ---- what is kept

module _ (old mid new : DiskState) (choice : Choice) (id : List ℕ) (total base : ℕ) (passes : List Pass)
    (only_now : (image : List ℕ) → old.images_since old.moment image → old.images image)
    (opens : OpensJournal choice (disk_change old mid)) (closed : IsClosed mid new id base total passes) where
  before_now : (t : ℕ) (image : List ℕ) → t ≤ old.moment → mid.images_since t image → old.images_since t image ⊎ old.images image
  before_now t image earlier since = elim (opens.stays.time.nothing_else t image earlier since) [
    | inl was ↦ inl was
    | inr now ↦ inr (opens.stays.crash image now)
  ]

  -- a crash at any moment since the journal was opened
  moments : (first : List ℕ) → old.content ≡ Some first
      → LeavesOnly old new (λ image. old.images image ⊎ FindsCeiling id total base first image)
  moments first known =
      let since = closed.any_moment first (opens.stays.content ∙ known) in
      let later = opens.stays.time.later in
      record {
        later = let more = since.later in omega (arith, later, more);
        each = λ image some. elim (since.before old.moment image later some) [
          | inl was ↦ (elim (before_now old.moment image (omega arith) was) [ inl first_was ↦ inl (only_now image first_was) | inr now ↦ inl now ])
          | inr finds ↦ inr finds
        ];
        before = λ t image earlier some. elim (since.before t image (omega (arith, earlier, later)) some) [
          | inl was ↦ (elim (before_now t image earlier was) [ inl first_was ↦ inl first_was | inr now ↦ inr (inl now) ])
          | inr finds ↦ inr (inr finds)
        ];
      }

  pub keeps_ceiling : KeepsCeiling choice id total base closed.ceiling closed.mark (disk_change old new)
  keeps_ceiling = record {
    chosen = closed.chosen ∙ opens.chosen;
    room = closed.room ∙ opens.stays.room;
    grows = closed.grows;
    told = λ bytes is. let was = closed.told bytes is in (was.0, sym opens.stays.content ∙ was.1);
    read = λ first known. closed.read first (opens.stays.content ∙ known);
    durable = λ first known. closed.durable first (opens.stays.content ∙ known);
    any_moment = moments;
    exact = closed.exact;
    only = closed.only;
    still = λ none. closed.still none ∙ opens.still;
    rose = λ some. let to = closed.rose some in (subst (λ (n : ℕ). Rose n closed.mark) opens.still to.0, to.1);
  }
