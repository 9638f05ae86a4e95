-- Headers of journals of two areas that were read.
use Rattle.std.proofs.Common.{◌≡◌, ◌≤◌, ◌+◌, ◌^◌, ℕ, List, Bool, true, refl, get_or, Option, Some, None, ap, sym, ◌∙◌, subst, arith}
use Rattle.zk_model.specs.declared.JournalKind.{JournalKind}
use Rattle.zk_model.specs.declared.JournalKind.TheVariants.{Claims, Ceilings}
use Rattle.lease_journal.specs.Journals.{slots_at}
use Rattle.lease_journal.specs.Twins.{HasTwinHeader, IsFirstTwinWrong, are_twin_slots, is_twin_wrong_at, twin_ceiling_slots, twin_header, twin_slots_at}
use Rattle.lease_journal.specs.Headers.{IsFirstOf, IsRead, is_wrong_beside, may_be_slots}
use Rattle.lease_journal.proofs.Headers.{first_same, not_false, slots_read, wrong_alike}
use Rattle.lease_journal.proofs.Headers as headers
use Rattle.lease_journal.proofs.Reading.{read_byte}

pub slots_of : (kind : JournalKind) (total slots : ℕ) → may_be_slots kind (twin_ceiling_slots total) slots ≡ are_twin_slots kind total slots
slots_of Claims total slots = refl
slots_of Ceilings total slots = refl

pub fits_few : (kind : JournalKind) (total slots : ℕ) → are_twin_slots kind total slots ≡ true → slots ≤ 2 ^ 28
fits_few kind total slots fits = headers.fits_few kind (twin_ceiling_slots total) slots (slots_of kind total slots ∙ fits)

-- what was found of a header beside the one that is wanted
module _ (kind : JournalKind) (id : List ℕ) (total slots : ℕ) (buffer wanted : List ℕ) (want : wanted ≡ twin_header kind id total 0) (fits : Bool)
    (fit : fits ≡ are_twin_slots kind total slots) (found : Option ℕ) (first : IsFirstOf (is_wrong_beside wanted fits buffer) found) where
  pub right_slots : found ≡ None → are_twin_slots kind total slots ≡ true
  right_slots none = sym fit ∙ not_false fits (subst (IsFirstOf (is_wrong_beside wanted fits buffer)) none first 24 (omega arith))

  module _ (begin : ℕ) (bytes : List ℕ) (read : IsRead buffer bytes begin 64) (says : slots ≡ slots_at buffer) where
    there : IsFirstOf (is_twin_wrong_at kind id total begin bytes) found
    there = first_same (is_wrong_beside (twin_header kind id total 0) fits buffer) (is_twin_wrong_at kind id total begin bytes)
        (λ place inside. wrong_alike (twin_header kind id total 0) buffer fits (are_twin_slots kind total (twin_slots_at begin bytes)) place (get_or bytes (begin + place) 0)
        (fit ∙ ap (are_twin_slots kind total) (says ∙ slots_read begin buffer bytes read)) (read_byte buffer bytes begin 64 read place inside))
        found (subst (λ (w : List ℕ). IsFirstOf (is_wrong_beside w fits buffer) found) want first)

    pub header_read : found ≡ None → HasTwinHeader kind id total begin bytes
    header_read none = record {
      whole = omega (arith, read.inside);
      right = subst (IsFirstOf (is_twin_wrong_at kind id total begin bytes)) none there;
    }

    pub wrong_read : (place : ℕ) → found ≡ Some place → IsFirstTwinWrong kind id total begin bytes place
    wrong_read place is =
        let here = subst (IsFirstOf (is_twin_wrong_at kind id total begin bytes)) is there in
        record { whole = omega (arith, read.inside); inside = here.0; wrong = here.1; first = here.2 }
