-- How a migration goes on after a journal of one area was read.
use Rattle.std.proofs.Common.{◌≡◌, ◌≤◌, ◌+◌, ◌^◌, ◌&&◌, ◌==◌, nat_le, not, min, ℕ, List, Bool, true, false, Some, Result, Ok, Err, IfOk, IfErr, inr, refl, sym, ◌∙◌, subst, arith}
use Rattle.std.proofs.lemmas.Bool.Decides.{nat_tests}
use Rattle.zk_port.specs.Disks.{DiskState, Stays}
use Rattle.zk_port.specs.Images.{HasDiskRoom}
use Rattle.zk_model.specs.declared.JournalKind.{JournalKind}
use Rattle.zk_model.specs.declared.JournalKind.TheVariants.{Claims, Ceilings}
use Rattle.lease_journal.specs.Journals.{are_slots, ceiling_slots}
use Rattle.journal_migration.specs.Migrations.{moved_slots, one_area_end}
use Rattle.lease_journal.specs.Twins.{are_twin_slots, twin_length}
use Rattle.lease_core.specs.Spans.{meets_any}
use Rattle.lease_journal.specs.OneAreas.{IsOneArea}
use Rattle.lease_journal.specs.declared.fault.StartFault.TheVariants as start
use Rattle.claim_store.specs.Causes.{HasReadCause, ClaimReadCause}
use Rattle.claim_store.specs.Claims.{claim_at, first_claims}
use Rattle.claim_store.specs.declared.fault.StoreFault.{StoreFault}
use Rattle.claim_store.specs.declared.fault.StoreFault.TheVariants as store
use Rattle.claim_store.proofs.Starting.{only_on}
use Rattle.journal_migration.specs.Migrating.{IsMigrationOver, IsThere, MigrationCause, MovesOver, RefusesUnwritten}
use Rattle.lease_journal.proofs.Moments.{stays_then}
use Rattle.journal_migration.proofs.BehindIt.{moves_after}

-- the new journal has a number of slots that there may be
pub slots_fit : (kind : JournalKind) (total slots : ℕ) → are_slots kind total slots ≡ true → are_twin_slots kind total (moved_slots kind total slots) ≡ true
slots_fit Claims total slots fits = fits
slots_fit Ceilings total slots fits = fit slots (ceiling_slots total) fits
  where
    fit : (slots n : ℕ) → (nat_le 1 slots && nat_le slots (2 ^ 28) && slots == n) ≡ true
        → (nat_le 1 (min 4096 n) && nat_le (min 4096 n) (2 ^ 28) && min 4096 n == min 4096 n) ≡ true
    fit slots n fits = grind (arith, nat_tests)

-- calls that write nothing leave a journal where it stood
pub there_after : (kind : JournalKind) (id : List ℕ) (total slots used : ℕ) (last : ℕ × ℕ) {old mid : DiskState} → Stays old mid
    → IsThere kind id total slots used last old → IsThere kind id total slots used last mid
there_after kind id total slots used last {old} {mid} stays there = record {
  bounded = there.bounded;
  within = there.within;
  may_be = there.may_be;
  read = there.read;
  stands = λ bytes is. there.stands bytes (sym stays.content ∙ is);
  synced = only_on old.content mid.content old.images mid.images stays.content stays.crash there.synced;
  room = subst (HasDiskRoom (one_area_end slots + twin_length (moved_slots kind total slots))) (sym stays.room) there.room;
}

-- a refusal after them writes nothing at all
refused_after : (result : Result ℕ StoreFault) (old mid new : DiskState) → ((t : ℕ) (c : List ℕ) → t ≤ old.moment → old.images c → old.images_since t c)
    → Stays old mid → IfErr result (RefusesUnwritten mid new) → IfErr result (RefusesUnwritten old new)
refused_after (Ok count) old mid new counts stays has = tt
refused_after (Err fault) old mid new counts stays has = λ other. stays_then counts stays (has other)

-- and what moves it on after them does so after all
pub moved_after : (kind : JournalKind) (id : List ℕ) (total : ℕ) (result : Result ℕ StoreFault) {old mid new : DiskState}
    → ((t : ℕ) (c : List ℕ) → t ≤ old.moment → old.images c → old.images_since t c) → ((c : List ℕ) → old.images_since old.moment c → old.images c)
    → Stays old mid → mid.faults ≡ old.faults → MovesOver kind id total mid new result → MovesOver kind id total old new result
moved_after kind id total result {old} {mid} {new} counts only stays same over = record {
  done = subst (λ content. IfOk result (λ count. (bytes : List ℕ) → content ≡ Some bytes → IsMigrationOver kind id total bytes count new)) stays.content over.done;
  moves = λ bytes is. moves_after kind id total bytes counts only stays (over.moves bytes (stays.content ∙ is));
  refused = refused_after result old mid new counts stays over.refused;
  durable = over.durable;
  chosen = over.chosen ∙ stays.chosen;
  cause = subst (λ content. IfErr result (λ e. (bytes : List ℕ) → content ≡ Some bytes → MigrationCause kind id total bytes e)) stays.content over.cause;
  faults = subst (λ n. HasReadCause n new.faults result) same over.faults;
}

-- why claims are not read is why their journal is not migrated
module _ (kind : JournalKind) (is : kind ≡ Claims) (id : List ℕ) (total slots used : ℕ) (last : ℕ × ℕ) (bytes : List ℕ)
    (stands : IsOneArea kind id total slots used last bytes) where
  here : IsOneArea Claims id total slots used last bytes
  here = subst (λ k. IsOneArea k id total slots used last bytes) is stands

  meets : (keeps meets : Bool) → keeps ≡ true → (keeps && not meets) ≡ false → meets ≡ true
  meets true true keeps none = refl
  meets true false keeps none = absurd (cc)
  meets false meet keeps none = absurd (cc)

  pub read_moves : (fault : StoreFault) → ClaimReadCause total 64 used bytes fault → MigrationCause kind id total bytes fault
  read_moves store.NoMemory cause = is
  read_moves (store.Journal start.Device) cause = tt
  read_moves (store.Journal (start.Short need got)) cause = absurd cause
  read_moves (store.Journal (start.BadHeader place)) cause = absurd cause
  read_moves (store.Journal (start.BadBody slot)) cause = inr (
    is,
    record {
      slots = slots;
      used = used;
      last = last;
      stands = here;
      inside = cause.0;
      before = cause.1;
      meets = meets _ (meets_any (claim_at 64 bytes slot) (first_claims 64 slot bytes)) (here.sound slot cause.0) cause.2;
    },
  )
