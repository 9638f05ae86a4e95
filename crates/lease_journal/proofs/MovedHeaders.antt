-- Headers of journals of one area, in which the gate of the migration is not judged.
use Rattle.std.proofs.Common.{◌≡◌, ◌≢◌, ◌<◌, ◌≤◌, ◌+◌, ◌^◌, ◌&&◌, ◌==◌, not, nat_le, ℕ, List, Bool, true, false, length, get_or, set, Option, Some, None, refl, ⊎_elim, ap, sym, ◌∙◌, subst, arith}
use Rattle.std.proofs.lemmas.Bool.{cases_eq}
use Rattle.std.proofs.lemmas.Bool.Decides.{nat_tests}
use Rattle.std.proofs.lemmas.List.{get_or-set_same, get_or-set_other}
use Rattle.zk_model.specs.declared.JournalKind.{JournalKind}
use Rattle.zk_model.specs.declared.JournalKind.TheVariants.{Claims, Ceilings}
use Rattle.lease_journal.specs.Journals.{are_slots, ceiling_slots, journal_code, journal_header, slots_at}
use Rattle.lease_journal.specs.Twins.{HasMovedHeader, IsFirstMovedWrong, is_migrated, is_wrong_beside_gate}
use Rattle.lease_journal.specs.Headers.{IsFirstOf, IsRead, is_wrong_beside, may_be_slots}
use Rattle.lease_journal.proofs.Headers.{first_same, fits_few, not_false, slots_read, wrong_alike}
use Rattle.lease_journal.proofs.Reading.{read_byte}

pub slots_of : (kind : JournalKind) (total slots : ℕ) → may_be_slots kind (ceiling_slots total) slots ≡ are_slots kind total slots
slots_of Claims total slots = refl
slots_of Ceilings total slots = refl

-- ---- the gate, which is not judged
module _ (kind : JournalKind) (id : List ℕ) (total : ℕ) (header : List ℕ) (whole : length header ≡ 64) where
  abbrev cleared : List ℕ
  cleared = set header 15 0

  abbrev wanted : List ℕ
  wanted = journal_header kind id total 0

  at_gate : (fits : Bool) → is_wrong_beside wanted fits cleared 15 ≡ false
  at_gate fits = ap (λ n. not (n == 0)) (get_or-set_same header 15 0 0 (omega (arith, whole)))

  not_gate : (place : ℕ) → place ≢ 15 → (place == 15) ≡ false
  not_gate place apart = grind (arith, nat_tests, apart)

  judged_same : (place : ℕ) → is_wrong_beside wanted (are_slots kind total (slots_at header)) cleared place ≡ is_wrong_beside_gate kind id total header place
  judged_same place = ⊎_elim
      (λ gate. subst (λ p. is_wrong_beside wanted (are_slots kind total (slots_at header)) cleared p ≡ is_wrong_beside_gate kind id total header p) (sym gate)
      (at_gate (are_slots kind total (slots_at header))))
      (λ apart.
      wrong_alike wanted cleared _ _ place (get_or header place 0) refl (get_or-set_other header 15 place 0 0 apart)
      ∙ sym (ap (λ b. not b && is_wrong_beside wanted (are_slots kind total (slots_at header)) header place) (not_gate place apart)))
      (cases_eq place 15)

  pub first_beside : (fits : Bool) (beside : List ℕ) (found : Option ℕ) → fits ≡ are_slots kind total (slots_at header) → beside ≡ journal_header kind id total 0
      → IsFirstOf (is_wrong_beside beside fits cleared) found → IsFirstOf (is_wrong_beside_gate kind id total header) found
  first_beside fits beside found fit is first =
      first_same (is_wrong_beside wanted (are_slots kind total (slots_at header)) cleared) (is_wrong_beside_gate kind id total header)
      (λ place inside. judged_same place) found
      (subst (λ (w : List ℕ). IsFirstOf (is_wrong_beside w (are_slots kind total (slots_at header)) cleared) found) is
      (subst (λ f. IsFirstOf (is_wrong_beside beside f cleared) found) fit first))

-- ---- a header that was read
module _ (kind : JournalKind) (id : List ℕ) (total : ℕ) (buffer bytes : List ℕ) (read : IsRead buffer bytes 0 64) where
  byte : (place : ℕ) → place < 64 → get_or buffer place 0 ≡ get_or bytes place 0
  byte place inside = read_byte buffer bytes 0 64 read place inside ∙ ap (λ p. get_or bytes p 0) (zero_more place)
    where
      zero_more : (place : ℕ) → 0 + place ≡ place
      zero_more place = omega arith

  long : (n : ℕ) → 64 ≤ n → nat_le 64 n ≡ true
  long n enough = grind (arith, nat_tests, enough)

  pub migrated_read : is_migrated kind buffer ≡ is_migrated kind bytes
  migrated_read =
      let here : nat_le 64 (length buffer) ≡ nat_le 64 (length bytes) = long (length buffer) (omega (arith, read.whole)) ∙ sym (long (length bytes) (omega (arith, read.inside))) in
      let eight : get_or buffer 8 0 ≡ get_or bytes 8 0 = byte 8 (omega arith) in
      let fifteen : get_or buffer 15 0 ≡ get_or bytes 15 0 = byte 15 (omega arith) in
      λ i. here i && (eight i == journal_code kind) && (fifteen i == 90)

  beside_read : (place : ℕ) → place < 64 → is_wrong_beside_gate kind id total buffer place ≡ is_wrong_beside_gate kind id total bytes place
  beside_read place inside = ap (λ b. not (place == 15) && b)
      (wrong_alike (journal_header kind id total 0) buffer (are_slots kind total (slots_at buffer)) (are_slots kind total (slots_at bytes)) place (get_or bytes place 0)
      (ap (are_slots kind total) (slots_read 0 buffer bytes read)) (byte place inside))

  first_read : (found : Option ℕ) → IsFirstOf (is_wrong_beside_gate kind id total buffer) found → IsFirstOf (is_wrong_beside_gate kind id total bytes) found
  first_read = first_same (is_wrong_beside_gate kind id total buffer) (is_wrong_beside_gate kind id total bytes) beside_read

  pub moved_header : (found : Option ℕ) → found ≡ None → IsFirstOf (is_wrong_beside_gate kind id total buffer) found → HasMovedHeader kind id total bytes
  moved_header found is first = record {
    whole = omega (arith, read.inside);
    right = first_read None (subst (IsFirstOf (is_wrong_beside_gate kind id total buffer)) is first);
  }

  pub moved_wrong : (found : Option ℕ) (place : ℕ) → found ≡ Some place → IsFirstOf (is_wrong_beside_gate kind id total buffer) found
      → IsFirstMovedWrong kind id total bytes place
  moved_wrong found place is first =
      let there = first_read (Some place) (subst (IsFirstOf (is_wrong_beside_gate kind id total buffer)) is first) in
      record { whole = omega (arith, read.inside); inside = there.0; wrong = there.1; first = there.2 }

-- a right header says a number of slots that there may be, which is small
module _ (kind : JournalKind) (id : List ℕ) (total : ℕ) (header : List ℕ) (found : Option ℕ) (is : found ≡ None)
    (first : IsFirstOf (is_wrong_beside_gate kind id total header) found) where
  pub right_moved : are_slots kind total (slots_at header) ≡ true
  right_moved = not_false (are_slots kind total (slots_at header)) (subst (IsFirstOf (is_wrong_beside_gate kind id total header)) is first 24 (omega arith))

  pub few_moved : slots_at header ≤ 2 ^ 28
  few_moved = fits_few kind (ceiling_slots total) (slots_at header) (slots_of kind total (slots_at header) ∙ right_moved)
