-- How slots are gone through one by one.
use Rattle.std.proofs.Common.{◌≡◌, ◌<◌, ◌≤◌, ◌+◌, ◌*◌, ◌^◌, ◌++◌, ℕ, zero, suc, List, [], ◌∷◌, Bool, true, false, length, Option, Some, None, IfSome, ⊎_elim, refl, ap, sym, ◌∙◌, subst, arith}
use Rattle.std.proofs.lemmas.Bool.{cases_lt}
use Rattle.zk_model.specs.declared.JournalKind.{JournalKind}
use Rattle.lease_journal.specs.Journals.{slots_at, Recovers, first_bodies, IsOpen, IsCut, AreUsed, IsFirstBad, is_sound_at, keeps_rule, body_at, body_before, last_body}
use Rattle.lease_journal.specs.Causes.{IsScanned, SlotCause, ScanCause, SlotSays, SaysSlots}
use Rattle.lease_journal.specs.declared.fault.StartFault.{StartFault}
use Rattle.lease_journal.specs.declared.fault.StartFault.TheVariants.{Device, Short, BadHeader, BadBody}
use Rattle.lease_journal.specs.Scans.{next_bad, HasRead}
use Rattle.lease_journal.proofs.Torn.{before_end}
use Rattle.std.proofs.lemmas.List.{length-append}
use Rattle.lease_journal.proofs.Putting.{length-first}
use Rattle.lease_journal.proofs.Sound.{before_more, none_sound, sound_more}

module _ (at : ℕ) where
  pub none_scanned : (kind : JournalKind) (total : ℕ) (bytes : List ℕ) → IsScanned kind total at 0 (0, 0) None bytes
  none_scanned kind total bytes = record {
    opened = λ slot below. absurd (omega (arith, below));
    last_is = refl;
    first_bad = λ slot below. absurd (omega (arith, below));
  }

  more_bad : (kind : JournalKind) (total used : ℕ) (bytes : List ℕ) (bad : Option ℕ) (keeps : Bool) → IsFirstBad kind total at bytes used bad
      → is_sound_at kind total at bytes used ≡ keeps → IsFirstBad kind total at bytes (used + 1) (next_bad bad keeps used)
  more_bad kind total used bytes (Some bad) keeps first is = (omega (arith, first.0), first.1, first.2)
  more_bad kind total used bytes None false first is = (omega arith, is, first)
  more_bad kind total used bytes None true first is = λ slot below. ⊎_elim
      (λ ahead. first slot ahead)
      (λ from. let here : slot ≡ used = omega (arith, from, below) in subst (λ n. is_sound_at kind total at bytes n ≡ true) (sym here) is)
      (cases_lt slot used)

  pub scan_more : (kind : JournalKind) (total used : ℕ) (last body : ℕ × ℕ) (bad : Option ℕ) (bytes : List ℕ) → IsScanned kind total at used last bad bytes
      → IsOpen at bytes used → body ≡ body_at at bytes used
      → IsScanned kind total at (used + 1) body (next_bad bad (keeps_rule kind total last.0 body) used) bytes
  scan_more kind total used last body bad bytes so_far is_open is_body =
      let same : is_sound_at kind total at bytes used ≡ keeps_rule kind total last.0 body =
      ap (λ (b : ℕ × ℕ). keeps_rule kind total b.0 (body_at at bytes used)) (sym so_far.last_is) ∙ ap (keeps_rule kind total last.0) (sym is_body) in
      let more : used + 1 ≡ suc used = omega arith in
      record {
        opened = λ slot below. ⊎_elim
            (λ ahead. so_far.opened slot ahead)
            (λ from. let here : slot ≡ used = omega (arith, from, below) in subst (λ n. IsOpen at bytes n) (sym here) is_open)
            (cases_lt slot used);
        last_is = is_body ∙ sym (ap (last_body at bytes) more);
        first_bad = more_bad kind total used bytes bad (keeps_rule kind total last.0 body) so_far.first_bad same;
      }

  -- the next slot starts within the file
  pub next_starts : (used : ℕ) (bytes : List ℕ) → at ≤ length bytes → ((slot : ℕ) → slot < used → IsOpen at bytes slot) → at + 32 * used ≤ length bytes
  next_starts zero bytes header opened = omega (arith, header)
  next_starts (suc used) bytes header opened = omega (arith, before_end bytes (at + 32 * used + 31) 90 (opened used (omega arith)) (omega arith))

  -- a journal whose slots were all read whole is not cut
  pub not_cut : (slots used : ℕ) (bytes : List ℕ) → AreUsed at slots used bytes → IsCut at slots bytes → ⊥
  not_cut slots used bytes are cut = ⊎_elim
      (λ ahead. omega (arith, cut.ends, before_end bytes (at + 32 * cut.slot + 31) 90 (are.opened cut.slot ahead) (omega arith)))
      (λ from. ⊎_elim
      (λ behind. are.closed (omega (arith, behind, cut.within)) (cut.opened used behind))
      (λ to.
      let here : cut.slot ≡ used = omega (arith, from, to) in
      let free : used < slots = omega (arith, here, cut.within) in
      omega (arith, cut.ends, here, are.whole free))
      (cases_lt used cut.slot))
      (cases_lt cut.slot used)

  -- why a slot is not read is why the slots are not read to their end
  pub scan_cause : (slots used : ℕ) (bytes : List ℕ) (fault : StartFault) → used < slots → ((slot : ℕ) → slot < used → IsOpen at bytes slot)
      → SlotCause at slots used bytes fault → ScanCause at slots bytes fault
  scan_cause slots used bytes Device within opened cause = tt
  scan_cause slots used bytes (Short need got) within opened cause =
      (cause.0, cause.1, record { slot = used; within = within; opened = opened; ends = cause.2 })
  scan_cause slots used bytes (BadHeader place) within opened cause = cause
  scan_cause slots used bytes (BadBody bad) within opened cause = cause

  -- at a slot that is not open, and at the end
  pub used_to_closed : (slots used : ℕ) (bytes : List ℕ) → used < slots → ((slot : ℕ) → slot < used → IsOpen at bytes slot) → SlotSays at bytes used None → AreUsed at slots used bytes
  used_to_closed slots used bytes within opened says = record { within = omega (arith, within); opened = opened; whole = λ free. says.0; closed = λ free. says.1 }

  pub used_to_end : (slots used : ℕ) (bytes : List ℕ) → used ≤ slots → slots ≤ used → ((slot : ℕ) → slot < used → IsOpen at bytes slot) → AreUsed at slots used bytes
  used_to_end slots used bytes within all opened = record {
    within = within;
    opened = opened;
    whole = λ free. absurd (omega (arith, free, all));
    closed = λ free. absurd (omega (arith, free, all));
  }

  -- the slots in use are those that are recovered
  pub used_recovers : (slots used : ℕ) (bytes : List ℕ) → AreUsed at slots used bytes → Recovers at slots bytes (first_bodies at used bytes)
  used_recovers slots used bytes are =
      let size : length (first_bodies at used bytes) ≡ used = length-first at used bytes in
      record {
        within = omega (arith, size, are.within);
        opened = λ slot below. are.opened slot (omega (arith, below, size));
        closed = λ free is_open. are.closed (omega (arith, free, size)) (subst (λ n. IsOpen at bytes n) size is_open);
        read = ap (λ n. first_bodies at n bytes) (sym size);
      }

-- what a header says of the number of slots
pub says_slots : (content : Option (List ℕ)) (slots : ℕ) → slots ≤ 2 ^ 28 → ((bytes : List ℕ) → content ≡ Some bytes → slots ≡ slots_at bytes) → SaysSlots content slots
says_slots None slots few is = few
says_slots (Some bytes) slots few is = (is bytes refl, few)

pub none_read : (kind : JournalKind) (total : ℕ) → HasRead kind total 0 (0, 0)
none_read kind total = record { bodies = []; count = refl; sound = none_sound kind total; last_is = refl }

pub read_more : (kind : JournalKind) (total used : ℕ) (last body : ℕ × ℕ) → HasRead kind total used last → keeps_rule kind total last.0 body ≡ true
    → HasRead kind total (used + 1) body
read_more kind total used last body so_far keeps =
    let ends : body_before so_far.bodies (length so_far.bodies) ≡ last = ap (body_before so_far.bodies) so_far.count ∙ sym so_far.last_is in
    record {
      bodies = so_far.bodies ++ body ∷ [];
      count = length-append so_far.bodies (body ∷ []) ∙ (omega (arith, so_far.count));
      sound = sound_more kind total so_far.bodies body so_far.sound (ap (λ (b : ℕ × ℕ). keeps_rule kind total b.0 body) ends ∙ keeps);
      last_is = sym (before_more so_far.bodies body used so_far.count);
    }

-- none is bad with one slot more: none was, and that one keeps the rule
pub none_bad : (bad : Option ℕ) (keeps : Bool) (slot : ℕ) → next_bad bad keeps slot ≡ None → (bad ≡ None) × (keeps ≡ true)
none_bad (Some bad) keeps slot none = absurd (cc)
none_bad None true slot none = (refl, refl)
none_bad None false slot none = absurd (cc)

-- a bad slot is one of those gone through
pub bad_before : (bad : Option ℕ) (keeps : Bool) (used : ℕ) → IfSome bad (λ slot. slot < used) → IfSome (next_bad bad keeps used) (λ slot. slot < used + 1)
bad_before (Some bad) keeps used before = omega (arith, before)
bad_before None true used before = tt
bad_before None false used before = omega arith
