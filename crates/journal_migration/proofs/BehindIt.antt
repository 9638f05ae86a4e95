-- What the steps of a migration leave of a journal of one area, and of the journal behind it.
use Rattle.std.proofs.Common.{◌≡◌, ◌≢◌, ◌<◌, ◌≤◌, ◌+◌, ◌-◌, ◌*◌, ◌&&◌, ◌==◌, not, nat_le, if◌then◌else◌, ℕ, List, [], ◌∷◌, Bool, true, false, length, get_or, Option, Some, None, IfSome, option_to_list, nat_eq, inl, inr, ⊎_elim, refl, ap, sym, ◌∙◌, subst, arith}
use Rattle.std.specs.Option.{option_map}
use Rattle.std.proofs.lemmas.Bool.{cases_eq, cases_lt}
use Rattle.std.proofs.lemmas.Bool.Decides.{nat_tests}
use Rattle.zk_port.specs.Disks.{DiskState, LeavesOnly, Stays}
use Rattle.zk_port.specs.Images.{HasDiskRoom, IsOutside, IsTorn, Only, StepsBy, written_at}
use Rattle.zk_port.proofs.Torn.{torn_by_write}
use Rattle.zk_model.specs.declared.JournalKind.{JournalKind}
use Rattle.zk_model.specs.declared.JournalKind.TheVariants.{Claims, Ceilings}
use Rattle.lease_journal.specs.Journals.{AreSound, AreUsed, body_before, first_bodies, journal_code, last_body, slots_at}
use Rattle.journal_migration.specs.Migrations.{SaysEither, SaysMoved, SaysOneArea, SaysTheSame, moved_slots, one_area_end}
use Rattle.lease_journal.specs.Twins.{HasMovedHeader, head_at, is_migrated, twin_length}
use Rattle.lease_journal.specs.Keeps.{ChangesAt}
use Rattle.lease_journal.specs.OneAreas.{IsOneArea}
use Rattle.lease_journal.proofs.Keeping.{SameBeside, moved_kept, torn_beside}
use Rattle.lease_journal.proofs.Keeping as keeping
use Rattle.lease_journal.proofs.Sound.{before_slot, slots_sound}
use Rattle.lease_journal.proofs.Moments.{leaves_also, stays_leaves, stays_then, then_leaves}
use Rattle.lease_journal.proofs.Putting.{body_kept, first_same, length-first}
use Rattle.lease_journal.proofs.Torn.{before_end, written_inside}
use Rattle.journal_migration.specs.Migrating.{IsMigrationOver, MovesOn, MovesSafely, next_ceiling}
use Rattle.twin_journal.specs.Laying.{HasAllBytes, IsLaid}
use Rattle.twin_journal.proofs.SameAreas.{area_stays}
use Rattle.twin_journal.proofs.TwinHeaders.{stands_same}

long : (n : ℕ) → 64 ≤ n → nat_le 64 n ≡ true
long n enough = grind (arith, nat_tests, enough)

-- the byte of the kind is right in a right header
kind_byte : (kind : JournalKind) (id : List ℕ) (total : ℕ) (bytes : List ℕ) → HasMovedHeader kind id total bytes → get_or bytes 8 0 ≡ journal_code kind
kind_byte kind id total bytes header = code kind (get_or bytes 8 0) (header.right 8 (omega arith))
  where
    code : (kind : JournalKind) (b : ℕ) → not (b == journal_code kind) ≡ false → b ≡ journal_code kind
    code Claims b is = grind (arith, nat_tests, is)
    code Ceilings b is = grind (arith, nat_tests, is)

-- with a right header the gate alone says whether the journal was migrated
migrated_by : (kind : JournalKind) (id : List ℕ) (total : ℕ) (bytes : List ℕ) → HasMovedHeader kind id total bytes → is_migrated kind bytes ≡ (get_or bytes 15 0 == 90)
migrated_by kind id total bytes header =
    (λ i. (long (length bytes) header.whole i) && (same i) && (get_or bytes 15 0 == 90))
  where
    same : (get_or bytes 8 0 == journal_code kind) ≡ true
    same = equal (get_or bytes 8 0) (journal_code kind) (kind_byte kind id total bytes header)
      where
        equal : (a b : ℕ) → a ≡ b → (a == b) ≡ true
        equal a b is = grind (arith, nat_tests, is)

opened_by : (kind : JournalKind) (id : List ℕ) (total : ℕ) (bytes : List ℕ) → HasMovedHeader kind id total bytes → get_or bytes 15 0 ≡ 90 → is_migrated kind bytes ≡ true
opened_by kind id total bytes header is = migrated_by kind id total bytes header ∙ equal (get_or bytes 15 0) is
  where
    equal : (a : ℕ) → a ≡ 90 → (a == 90) ≡ true
    equal a is = grind (arith, nat_tests, is)

closed_by : (kind : JournalKind) (id : List ℕ) (total : ℕ) (bytes : List ℕ) → HasMovedHeader kind id total bytes → get_or bytes 15 0 ≢ 90 → is_migrated kind bytes ≡ false
closed_by kind id total bytes header apart = migrated_by kind id total bytes header ∙ unequal (get_or bytes 15 0) apart
  where
    unequal : (a : ℕ) → a ≢ 90 → (a == 90) ≡ false
    unequal a apart = grind (arith, nat_tests, apart)

gate_shut : (kind : JournalKind) (id : List ℕ) (total : ℕ) (bytes : List ℕ) → HasMovedHeader kind id total bytes → is_migrated kind bytes ≡ false → get_or bytes 15 0 ≢ 90
gate_shut kind id total bytes header here is = not_both (sym here ∙ opened_by kind id total bytes header is)
  where
    not_both : false ≡ true → ⊥
    not_both e = cc e

-- ---- the journal of one area
module _ (kind : JournalKind) (id : List ℕ) (total slots : ℕ) (bodies : List (ℕ × ℕ)) (old new : List ℕ) (says : SaysOneArea kind id total slots bodies old)
    (beside : SameBeside old new) (kept : (place : ℕ) → 64 ≤ place → place < one_area_end slots → place < length old → get_or new place 0 ≡ get_or old place 0) where
  gate_inside : (slot : ℕ) → slot < length bodies → 64 + 32 * slot + 31 < length old
  gate_inside slot below = before_end old (64 + 32 * slot + 31) 90 (says.used.opened slot below) (omega arith)

  gate_kept : (slot : ℕ) → slot < slots → 64 + 32 * slot + 31 < length old → get_or new (64 + 32 * slot + 31) 0 ≡ get_or old (64 + 32 * slot + 31) 0
  gate_kept slot below inside = kept (64 + 32 * slot + 31) (omega arith) (omega (arith, below)) inside

  used_kept : AreUsed 64 slots (length bodies) new
  used_kept = record {
    within = says.used.within;
    opened = λ slot below. gate_kept slot (omega (arith, below, says.used.within)) (gate_inside slot below) ∙ says.used.opened slot below;
    whole = λ free. omega (arith, says.used.whole free, beside.longer);
    closed = λ free is_open. says.used.closed free (sym (gate_kept (length bodies) free (omega (arith, says.used.whole free))) ∙ is_open);
  }

  bodies_kept : bodies ≡ first_bodies 64 (length bodies) new
  bodies_kept = says.read ∙ sym (first_same 64 (length bodies) old new (λ slot below.
      body_kept 64 slot old new (omega (arith, gate_inside slot below)) beside.longer (λ i inside.
      kept (64 + 32 * slot + i) (omega arith) (omega (arith, inside, below, says.used.within)) (omega (arith, inside, gate_inside slot below)))))

  pub one_area_kept : is_migrated kind new ≡ false → SaysOneArea kind id total slots bodies new
  one_area_kept here = record {
    header = moved_kept kind id total old new beside says.header;
    here = here;
    says = keeping.moved_slots old new beside ∙ says.says;
    used = used_kept;
    read = bodies_kept;
    sound = says.sound;
  }

-- ---- while the journal behind it is written
module _ (kind : JournalKind) (id : List ℕ) (total slots : ℕ) (bodies : List (ℕ × ℕ)) (n : ℕ) (old new : List ℕ) (says : SaysOneArea kind id total slots bodies old)
    (torn : IsTorn (one_area_end slots) n old new) where
  beside_laid : SameBeside old new
  beside_laid = torn_beside (one_area_end slots) n old new (λ place inside apart. inl (omega (arith, inside))) says.header.whole torn

  pub one_area_laid : SaysOneArea kind id total slots bodies new
  one_area_laid =
      one_area_kept kind id total slots bodies old new says beside_laid (λ place behind ahead inside. torn.kept place inside (inl ahead))
      (closed_by kind id total new (moved_kept kind id total old new beside_laid says.header) (λ is.
      gate_shut kind id total old says.header says.here (sym (torn.kept 15 (omega (arith, says.header.whole)) (inl (omega arith))) ∙ is)))

-- ---- while the gate of the migration is written
module _ (kind : JournalKind) (id : List ℕ) (total old_slots slots : ℕ) (bodies next : List (ℕ × ℕ)) (old new : List ℕ) (says : SaysOneArea kind id total old_slots bodies old)
    (laid : IsLaid kind id total (one_area_end old_slots) slots next old) (sound : AreSound kind total next) (torn : IsTorn 15 1 old new) where
  begin : ℕ
  begin = one_area_end old_slots

  outside : (place : ℕ) → place ≢ 15 → IsOutside 15 1 place
  outside place apart = ⊎_elim (λ ahead. inl ahead) (λ from. inr (omega (arith, from, apart))) (cases_lt place 15)

  beside_gate : SameBeside old new
  beside_gate = torn_beside 15 1 old new (λ place inside apart. outside place apart) says.header.whole torn

  header_now : HasMovedHeader kind id total new
  header_now = moved_kept kind id total old new beside_gate says.header

  behind : (place : ℕ) → 64 ≤ place → place < length old → get_or new place 0 ≡ get_or old place 0
  behind place from inside = torn.kept place inside (inr (omega (arith, from)))

  pub gate_opened : get_or new 15 0 ≡ 90 → SaysMoved kind id total old_slots slots next new
  gate_opened is =
      let moved : is_migrated kind new ≡ true = opened_by kind id total new header_now is in
      let size : slots_at new ≡ old_slots = keeping.moved_slots old new beside_gate ∙ says.says in
      let full : one_area_end old_slots + twin_length slots ≤ length old = laid.stands.full in
      record {
        moved = moved;
        holds = record {
          begins = ap (λ b. if b then 64 + 32 * slots_at new else 0) moved ∙ ap one_area_end size;
          moved = λ e. header_now;
          stands = stands_same kind id total (one_area_end old_slots) slots old new torn.least
              (λ place inside. behind (one_area_end old_slots + place) (omega arith) (omega (arith, inside, laid.stands.header.whole))) laid.stands;
        };
        says = record {
          second = false;
          area = area_stays (one_area_end old_slots) slots 1 false next old new laid.area full torn.least
              (λ i inside. behind (head_at (one_area_end old_slots) slots false + i) (omega arith) (omega (arith, inside, full)))
              (λ other. absurd (laid.shut (sym (behind (head_at (one_area_end old_slots) slots true + 31) (omega arith) (omega (arith, full))) ∙ other)));
        };
        sound = sound;
        may_have = record { least = omega arith; most = omega arith };
      }

  pub gate_torn : SaysEither kind id total old_slots bodies slots next new
  gate_torn = record {
    says = ⊎_elim
        (λ is. inr (gate_opened is))
        (λ apart. inl (one_area_kept kind id total old_slots bodies old new says beside_gate (λ place from ahead inside. behind place from inside)
        (closed_by kind id total new header_now apart)))
        (cases_eq (get_or new 15 0) 90);
  }

-- ---- over a disk
module _ (kind : JournalKind) (id : List ℕ) (total old_slots slots : ℕ) (bodies next : List (ℕ × ℕ)) (bytes : List ℕ) (says : SaysOneArea kind id total old_slots bodies bytes) where
  laid_step : (n : ℕ) (image : List ℕ) → IsTorn (one_area_end old_slots) n bytes image → SaysEither kind id total old_slots bodies slots next image
  laid_step n image torn = record { says = inl (one_area_laid kind id total old_slots bodies n bytes image says torn) }

  pub laid_moments : (n : ℕ) {old mid : DiskState} → ((image : List ℕ) → old.images image → image ≡ bytes) → ChangesAt (one_area_end old_slots) n old mid
      → LeavesOnly old mid (SaysEither kind id total old_slots bodies slots next)
  laid_moments n only changes = leaves_also changes.any_moment (λ image was.
      laid_step n image (subst (λ o. IsTorn (one_area_end old_slots) n o image) (only was.0 was.1) was.2))

  pub laid_read : (n : ℕ) (old mid : Option (List ℕ)) → old ≡ Some bytes → StepsBy (IsTorn (one_area_end old_slots) n) old mid
      → IfSome mid (SaysEither kind id total old_slots bodies slots next)
  laid_read n old mid is steps = each mid (subst (λ o. StepsBy (IsTorn (one_area_end old_slots) n) o mid) is steps)
    where
      each : (mid : Option (List ℕ)) → StepsBy (IsTorn (one_area_end old_slots) n) (Some bytes) mid → IfSome mid (SaysEither kind id total old_slots bodies slots next)
      each None steps = tt
      each (Some image) torn = laid_step n image torn

  -- once it is written behind
  pub record Standing (mid : DiskState) : Type 0 where
    pub now : List ℕ
    pub content : mid.content ≡ Some now
    pub still : SaysOneArea kind id total old_slots bodies now
    pub laid : IsLaid kind id total (one_area_end old_slots) slots next now
    pub only : (image : List ℕ) → mid.images image → image ≡ now

  pub standing : (n : ℕ) (old mid : DiskState) → old.content ≡ Some bytes → ChangesAt (one_area_end old_slots) n old mid
      → IfSome mid.content (IsLaid kind id total (one_area_end old_slots) slots next) → Only mid.content mid.images → Standing mid
  standing n old mid is changes laid only =
      each mid.content refl (subst (λ o. StepsBy (IsTorn (one_area_end old_slots) n) o mid.content) is changes.content) laid only
    where
      each : (content : Option (List ℕ)) → mid.content ≡ content → StepsBy (IsTorn (one_area_end old_slots) n) (Some bytes) content
          → IfSome content (IsLaid kind id total (one_area_end old_slots) slots next) → Only content mid.images → Standing mid
      each None there steps laid only = absurd steps
      each (Some now) there torn laid only = record {
        now = now;
        content = there;
        still = one_area_laid kind id total old_slots bodies n bytes now says torn;
        laid = laid;
        only = only;
      }

module _ (kind : JournalKind) (id : List ℕ) (total old_slots slots : ℕ) (bodies next : List (ℕ × ℕ)) (bytes : List ℕ) (was : SaysOneArea kind id total old_slots bodies bytes)
    (sound : AreSound kind total next) {mid : DiskState} (stands : Standing kind id total old_slots slots bodies next bytes was mid) where
  gate_step : (image : List ℕ) → IsTorn 15 1 stands.now image → SaysEither kind id total old_slots bodies slots next image
  gate_step image torn = gate_torn kind id total old_slots slots bodies next stands.now image stands.still stands.laid sound torn

  pub gate_moments : {new : DiskState} → ChangesAt 15 1 mid new → LeavesOnly mid new (SaysEither kind id total old_slots bodies slots next)
  gate_moments changes = leaves_also changes.any_moment (λ image torn. gate_step image (subst (λ o. IsTorn 15 1 o image) (stands.only torn.0 torn.1) torn.2))

  pub gate_read : (new : Option (List ℕ)) → StepsBy (IsTorn 15 1) mid.content new → IfSome new (SaysEither kind id total old_slots bodies slots next)
  gate_read new steps = each new (subst (λ o. StepsBy (IsTorn 15 1) o new) stands.content steps)
    where
      each : (new : Option (List ℕ)) → StepsBy (IsTorn 15 1) (Some stands.now) new → IfSome new (SaysEither kind id total old_slots bodies slots next)
      each None steps = tt
      each (Some image) torn = gate_step image torn

  pub gate_done : (new : Option (List ℕ)) → new ≡ option_map (written_at 15 (90 ∷ [])) mid.content → IfSome new (SaysMoved kind id total old_slots slots next)
  gate_done new is =
      subst (λ o. IfSome o (SaysMoved kind id total old_slots slots next)) (sym (is ∙ ap (option_map (written_at 15 (90 ∷ []))) stands.content))
      (gate_opened kind id total old_slots slots bodies next stands.now (written_at 15 (90 ∷ []) stands.now) stands.still stands.laid sound
      (torn_by_write 15 (90 ∷ []) stands.now) (written_inside 15 (90 ∷ []) stands.now 0 (omega arith)))

-- what was read of a journal of one area, as what it says
pub says_one_area : (kind : JournalKind) (id : List ℕ) (total slots used : ℕ) (last : ℕ × ℕ) (bytes : List ℕ) → IsOneArea kind id total slots used last bytes
    → SaysOneArea kind id total slots (first_bodies 64 used bytes) bytes
says_one_area kind id total slots used last bytes is = record {
  header = is.header;
  here = is.here;
  says = sym is.slots_are;
  used = subst (λ n. AreUsed 64 slots n bytes) (sym (length-first 64 used bytes)) is.slots_used;
  read = ap (λ n. first_bodies 64 n bytes) (sym (length-first 64 used bytes));
  sound = slots_sound kind total 64 used bytes is.sound;
}

-- the slots in use are whole
pub used_inside : (slots used : ℕ) (bytes : List ℕ) → 64 ≤ length bytes → AreUsed 64 slots used bytes → 64 + 32 * used ≤ length bytes
used_inside slots used bytes whole are = ⊎_elim
    (λ none. omega (arith, whole, none))
    (λ some. omega (arith, some, before_end bytes (64 + 32 * (used - 1) + 31) 90 (are.opened (used - 1) (omega (arith, some))) (omega arith)))
    (cases_lt used 1)

-- ---- what a migration that was begun does
module _ (kind : JournalKind) (id : List ℕ) (total slots new_slots : ℕ) (bodies next : List (ℕ × ℕ)) (bytes : List ℕ) (was : SaysOneArea kind id total slots bodies bytes)
    (same : SaysTheSame kind bodies next) (are : new_slots ≡ moved_slots kind total slots) where
  pub moves_on : (old new : DiskState) → LeavesOnly old new (SaysEither kind id total slots bodies new_slots next)
      → ((image : List ℕ) → old.moment ≤ new.moment → new.images image → new.images_since old.moment image)
      → IfSome new.content (SaysEither kind id total slots bodies new_slots next) → MovesOn kind id total bytes old new
  moves_on old new any counts read = record {
    slots = slots;
    bodies = bodies;
    next = next;
    was = was;
    same = same;
    any_moment = leaves_also (subst (λ n. LeavesOnly old new (SaysEither kind id total slots bodies n next)) are any) (λ image says. inr says);
    each = λ image left. subst (λ n. SaysEither kind id total slots bodies n next image) are (any.each image (counts image any.later left));
    read = subst (λ n. IfSome new.content (SaysEither kind id total slots bodies n next)) are read;
  }

  pub is_done : (new : DiskState) (used : ℕ) → used ≡ length next → IfSome new.content (SaysMoved kind id total slots new_slots next)
      → IfSome new.content (HasAllBytes kind id total (one_area_end slots) new_slots next) → IsMigrationOver kind id total bytes used new
  is_done new used count now all = record {
    slots = slots;
    bodies = bodies;
    next = next;
    was = was;
    same = same;
    count = count;
    now = subst (λ n. IfSome new.content (SaysMoved kind id total slots n next)) are now;
    all = subst (λ n. IfSome new.content (HasAllBytes kind id total (one_area_end slots) n next)) are all;
  }

-- after calls that write nothing
pub moves_after : (kind : JournalKind) (id : List ℕ) (total : ℕ) (bytes : List ℕ) {old mid new : DiskState}
    → ((t : ℕ) (c : List ℕ) → t ≤ old.moment → old.images c → old.images_since t c) → ((c : List ℕ) → old.images_since old.moment c → old.images c)
    → Stays old mid → MovesSafely kind id total bytes mid new → MovesSafely kind id total bytes old new
moves_after kind id total bytes counts only stays (inl still) = inl (stays_then counts stays still.0, stays_leaves only (stays_then counts stays still.0))
moves_after kind id total bytes counts only stays (inr moves) = inr (record {
  slots = moves.slots;
  bodies = moves.bodies;
  next = moves.next;
  was = moves.was;
  same = moves.same;
  any_moment = then_leaves (leaves_also (stays_leaves only stays) (λ image was. inl was))
      (leaves_also moves.any_moment (λ image left. ⊎_elim (λ was. inl (stays.crash image was)) (λ says. inr says) left));
  each = moves.each;
  read = moves.read;
})

-- nothing was written
pub stays_safe : (kind : JournalKind) (id : List ℕ) (total : ℕ) (bytes : List ℕ) {old new : DiskState} → ((c : List ℕ) → old.images_since old.moment c → old.images c)
    → Stays old new → MovesSafely kind id total bytes old new
stays_safe kind id total bytes only stays = inl (stays, stays_leaves only stays)

pub only_of : (content : Option (List ℕ)) (images : List ℕ → Type 0) (bytes : List ℕ) → content ≡ Some bytes → Only content images → (image : List ℕ) → images image → image ≡ bytes
only_of content images bytes is only = subst (λ o. Only o images) is only

pub room_of : (room : Option ℕ) (end : ℕ) → ((size : ℕ) → room ≡ Some size → end ≤ size) → HasDiskRoom end room
room_of None end fits = tt
room_of (Some size) end fits = fits size refl

-- the last ceiling
pub same_ceiling : (total used : ℕ) (last : ℕ × ℕ) (bytes : List ℕ) → last ≡ last_body 64 bytes used
    → SaysTheSame Ceilings (first_bodies 64 used bytes) (option_to_list (next_ceiling last.0))
same_ceiling total used last bytes is = by (nat_eq last.0 0) refl
  where
    old_is : (body_before (first_bodies 64 used bytes) (length (first_bodies 64 used bytes))).0 ≡ last.0
    old_is =
        ap (λ n. (body_before (first_bodies 64 used bytes) n).0) (length-first 64 used bytes)
        ∙ ap (λ (b : ℕ × ℕ). b.0) (before_slot 64 used bytes used (omega arith) ∙ sym is)

    zero_of : nat_eq last.0 0 ≡ true → last.0 ≡ 0
    zero_of e = grind (arith, nat_tests, e)

    by : (b : Bool) → nat_eq last.0 0 ≡ b → SaysTheSame Ceilings (first_bodies 64 used bytes) (option_to_list (next_ceiling last.0))
    by true e = rw e (sym (zero_of e) ∙ sym old_is)
    by false e = rw e (sym old_is)
