-- A journal that may be migrated is refused only where the disk fails or memory runs out.
use Rattle.std.proofs.Common.{◌≡◌, ◌<◌, ℕ, List, length, get_or, true, false, inl, inr, ⊎_elim, refl, ap, sym, ◌∙◌, subst, arith}
use Rattle.std.proofs.lemmas.Bool.{true≢false}
use Rattle.zk_model.specs.declared.JournalKind.{JournalKind}
use Rattle.zk_model.specs.declared.JournalKind.TheVariants.{Claims}
use Rattle.claim_store.specs.ClaimedRanges.{claims_of}
use Rattle.lease_journal.specs.Journals.{AreSound, AreUsed, Recovers, first_bodies, last_body}
use Rattle.lease_journal.specs.Twins.{HasMovedHeader, is_migrated}
use Rattle.lease_core.specs.Spans.{AreApart, IsApart, meets_any}
use Rattle.lease_journal.specs.Causes.{OneAreaCause}
use Rattle.lease_journal.specs.declared.fault.StartFault.{StartFault}
use Rattle.lease_journal.specs.declared.fault.StartFault.TheVariants as start
use Rattle.lease_journal.specs.OneAreas.{IsOneArea}
use Rattle.lease_journal.proofs.OneAreas.{reads_again}
use Rattle.lease_journal.proofs.Scanning.{used_recovers}
use Rattle.lease_journal.proofs.Sound.{recovers_same, sound_slots}
use Rattle.claim_store.specs.Claims.{claim_at, first_claims}
use Rattle.claim_store.specs.declared.fault.StoreFault.TheVariants as store
use Rattle.claim_store.proofs.Slots.{claims_count, claims_get}
use Rattle.claim_store.proofs.Starting.{not_met}
use Rattle.journal_migration.specs.Migrating.{HasMeeting, IsSoundOneArea, MayMigrate, SoundIsMigrated}

-- ---- a journal of one area that was not migrated
module _ (kind : JournalKind) (id : List ℕ) (total : ℕ) (bytes : List ℕ) (s : IsSoundOneArea kind id total bytes) where
  recovers : Recovers 64 s.slots bytes s.bodies
  recovers = record { within = s.says.used.within; opened = s.says.used.opened; closed = s.says.used.closed; read = s.says.read }

  -- the bodies are those of the slots in use
  bodies_used : (used : ℕ) → AreUsed 64 s.slots used bytes → s.bodies ≡ first_bodies 64 used bytes
  bodies_used used are = recovers_same 64 s.slots bytes s.bodies (first_bodies 64 used bytes) recovers (used_recovers 64 s.slots used bytes are)

  one_area : IsOneArea kind id total s.slots (length s.bodies) (last_body 64 bytes (length s.bodies)) bytes
  one_area = record {
    header = s.says.header;
    here = s.says.here;
    slots_are = sym s.says.says;
    slots_used = s.says.used;
    last_is = refl;
    sound = sound_slots kind total 64 (length s.bodies) bytes (subst (AreSound kind total) s.says.read s.says.sound);
  }

  -- no claim has a unit of an earlier one
  no_meeting : kind ≡ Claims → (slot : ℕ) → HasMeeting id total bytes slot → ⊥
  no_meeting claims slot cause =
      let size : cause.slots ≡ s.slots = cause.stands.slots_are ∙ s.says.says in
      let bodies : s.bodies ≡ first_bodies 64 cause.used bytes = bodies_used cause.used (subst (λ n. AreUsed 64 n cause.used bytes) size cause.stands.slots_used) in
      let all : AreApart (first_claims 64 cause.used bytes) = subst (λ l. AreApart (claims_of l)) bodies (s.apart claims) in
      let none : meets_any (claim_at 64 bytes slot) (first_claims 64 slot bytes) ≡ false =
      not_met (claim_at 64 bytes slot) (first_claims 64 slot bytes) (λ k d below.
      let inside : k < slot = omega (arith, below, claims_count 64 slot bytes) in
      let pair : IsApart (get_or (first_claims 64 cause.used bytes) k d) (get_or (first_claims 64 cause.used bytes) slot d) =
      all k slot d inside (omega (arith, cause.inside, claims_count 64 cause.used bytes)) in
      subst (λ x. IsApart x (claim_at 64 bytes slot)) (claims_get 64 cause.used bytes k d (omega (arith, inside, cause.inside)) ∙ sym (claims_get 64 slot bytes k d inside))
      (subst (λ y. IsApart (get_or (first_claims 64 cause.used bytes) k d) y) (claims_get 64 cause.used bytes slot d cause.inside) pair)) in
      true≢false (sym cause.meets ∙ none)

-- ---- one that was migrated
migrated_is_read : (kind : JournalKind) (id : List ℕ) (total : ℕ) (bytes : List ℕ) (fault : StartFault) → HasMovedHeader kind id total bytes
    → is_migrated kind bytes ≡ true → OneAreaCause kind id total bytes fault → fault ≡ start.Device
migrated_is_read kind id total bytes start.Device header moved cause = refl
migrated_is_read kind id total bytes (start.BadHeader place) header moved cause =
    absurd (true≢false (sym cause.wrong ∙ header.right place cause.inside))
migrated_is_read kind id total bytes (start.Short need got) header moved cause =
    absurd (⊎_elim (λ short. omega (arith, short.1, header.whole)) (λ cut. true≢false (sym moved ∙ cut.2)) cause.1)
migrated_is_read kind id total bytes (start.BadBody bad) header moved cause = absurd (true≢false (sym moved ∙ cause.1))

-- ---- both
module _ (kind : JournalKind) (id : List ℕ) (total : ℕ) (bytes : List ℕ) where
  is_read : (fault : StartFault) → MayMigrate kind id total bytes → OneAreaCause kind id total bytes fault → fault ≡ start.Device
  is_read fault (inl sound) cause = reads_again kind id total sound.slots (length sound.bodies) (last_body 64 bytes (length sound.bodies)) bytes fault
      (one_area kind id total bytes sound) cause
  is_read fault (inr moved) cause = migrated_is_read kind id total bytes fault moved.0 moved.1 cause

  none_met : (slot : ℕ) → MayMigrate kind id total bytes → kind ≡ Claims → HasMeeting id total bytes slot → ⊥
  none_met slot (inl sound) claims cause = no_meeting kind id total bytes sound claims slot cause
  none_met slot (inr moved) claims cause =
      true≢false (sym (subst (λ k. is_migrated k bytes ≡ true) claims moved.1) ∙ cause.stands.here)

pub sound_is_migrated : SoundIsMigrated
sound_is_migrated kind id total bytes store.NoMemory may cause = inr refl
sound_is_migrated kind id total bytes (store.Journal start.Device) may cause = inl refl
sound_is_migrated kind id total bytes (store.Journal (start.Short need got)) may cause =
    inl (ap store.Journal (is_read kind id total bytes (start.Short need got) may cause))
sound_is_migrated kind id total bytes (store.Journal (start.BadHeader place)) may cause =
    inl (ap store.Journal (is_read kind id total bytes (start.BadHeader place) may cause))
sound_is_migrated kind id total bytes (store.Journal (start.BadBody slot)) may (inl cause) =
    inl (ap store.Journal (is_read kind id total bytes (start.BadBody slot) may cause))
sound_is_migrated kind id total bytes (store.Journal (start.BadBody slot)) may (inr cause) =
    absurd (none_met kind id total bytes slot may cause.0 cause.1)
