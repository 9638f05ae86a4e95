-- What a file of a journal says while it is migrated: the journal of one area, or the one of two areas behind it, by whichever the gate
-- of the migration names.
use Rattle.std.specs.Prelude.{◌≡◌, ◌⊎◌, ℕ, ◌+◌, ◌*◌, List, length, true, false}
use Rattle.zk_model.specs.declared.JournalKind.{JournalKind}
use Rattle.zk_model.specs.declared.JournalKind.TheVariants.{Claims, Ceilings}
use Rattle.claim_store.specs.ClaimedRanges.{AreMerged, claims_of}
use Rattle.lease_journal.specs.Journals.{AreSound, AreUsed, body_before, first_bodies, slots_at}
use Rattle.lease_journal.specs.Twins.{HasMovedHeader, HoldsTwin, MayHaveGeneration, SaysTwin, is_migrated, twin_ceiling_slots}

-- where a journal of one area and of so many slots ends
abbrev pub one_area_end : ℕ → ℕ
one_area_end slots = 64 + 32 * slots

-- a journal of one area, of so many slots, that was not migrated says these bodies: those of its first slots, which are open; the next one
-- is not
pub record SaysOneArea (kind : JournalKind) (id : List ℕ) (total slots : ℕ) (bodies : List (ℕ × ℕ)) (bytes : List ℕ) : Type 0 where
  pub header : HasMovedHeader kind id total bytes
  pub here : is_migrated kind bytes ≡ false
  pub says : slots_at bytes ≡ slots
  pub used : AreUsed 64 slots (length bodies) bytes
  pub read : bodies ≡ first_bodies 64 (length bodies) bytes
  pub sound : AreSound kind total bodies

-- a journal of two areas that one of one area and so many slots was migrated to says these bodies, in generation 1, which keep their rules
pub record SaysMoved (kind : JournalKind) (id : List ℕ) (total old_slots slots : ℕ) (bodies : List (ℕ × ℕ)) (bytes : List ℕ) : Type 0 where
  pub moved : is_migrated kind bytes ≡ true
  pub holds : HoldsTwin kind id total (one_area_end old_slots) slots bytes
  pub says : SaysTwin (one_area_end old_slots) slots 1 bodies bytes
  pub sound : AreSound kind total bodies
  pub may_have : MayHaveGeneration kind bodies 1

-- the one says the old bodies, or the other the new ones
pub record SaysEither (kind : JournalKind) (id : List ℕ) (total old_slots : ℕ) (old : List (ℕ × ℕ)) (slots : ℕ) (new : List (ℕ × ℕ)) (bytes : List ℕ) : Type 0 where
  pub says : SaysOneArea kind id total old_slots old bytes ⊎ SaysMoved kind id total old_slots slots new bytes

-- how many slots an area has in the journal that one of one area and so many slots is migrated to
abbrev pub moved_slots : JournalKind → ℕ → ℕ → ℕ
moved_slots Claims total slots = slots
moved_slots Ceilings total slots = twin_ceiling_slots total

-- new bodies say what the old ones say: the ranges of their claims, or their last ceiling
abbrev pub SaysTheSame : JournalKind → List (ℕ × ℕ) → List (ℕ × ℕ) → Type 0
SaysTheSame Claims old new = AreMerged (claims_of old) (claims_of new)
SaysTheSame Ceilings old new = (body_before new (length new)).0 ≡ (body_before old (length old)).0
