-- A new journal of two areas.
use Rattle.std.proofs.Common.{◌≡◌, ◌<◌, ◌≤◌, true, false, ◌+◌, ◌-◌, ◌*◌, ◌++◌, ℕ, List, [], length, get_or, replicate, refl, ap, ◌∙◌, arith}
use Rattle.std.proofs.lemmas.List.{get_or_append_left, get_or-append_right, length-append, length-replicate}
use Rattle.zk_model.specs.declared.JournalKind.{JournalKind}
use Rattle.lease_journal.specs.Journals.{IsOpen}
use Rattle.lease_journal.specs.Twins.{area_at, are_twin_slots, blank_twin_bytes, first_head, head_at, twin_header}
use Rattle.lease_journal.specs.Causes.{KeptAt}
use Rattle.lease_journal.proofs.Newly.{same_at}
use Rattle.twin_journal.specs.Laws.{BlankTwinIsNew}
use Rattle.twin_journal.specs.Laying.{HasFirstBytes, IsLaid}
use Rattle.twin_journal.proofs.Laid.{header_size, laid}
use Rattle.twin_journal.proofs.TwinHeaders.{holds_first}

module _ (kind : JournalKind) (id : List ℕ) (total slots : ℕ) (size : length id ≡ 32) where
  abbrev blank : List ℕ
  blank = blank_twin_bytes kind id total slots

  abbrev started : List ℕ
  started = twin_header kind id total slots ++ first_head

  zeros : ℕ
  zeros = 32 * slots + 32 * (slots + 1)

  head_size : length first_head ≡ 32
  head_size = refl

  started_size : length started ≡ 96
  started_size = length-append (twin_header kind id total slots) first_head ∙ (omega (arith, header_size kind id total slots size, head_size))

  blank_size : length blank ≡ 96 + (32 * slots + 32 * (slots + 1))
  blank_size =
      let zero_byte : ℕ = 0 in
      let rest : length (replicate (32 * slots + 32 * (slots + 1)) zero_byte) ≡ 32 * slots + 32 * (slots + 1) = length-replicate (32 * slots + 32 * (slots + 1)) zero_byte in
      length-append started (replicate (32 * slots + 32 * (slots + 1)) zero_byte) ∙ (omega (arith, started_size, rest))

  in_header : (place : ℕ) → place < 64 → get_or blank place 0 ≡ get_or (twin_header kind id total slots) place 0
  in_header place inside =
      get_or_append_left started (replicate (32 * slots + 32 * (slots + 1)) 0) 0 place (omega (arith, inside, started_size))
      ∙ get_or_append_left (twin_header kind id total slots) first_head 0 place (omega (arith, inside, header_size kind id total slots size))

  in_head : (i : ℕ) → i < 32 → get_or blank (64 + i) 0 ≡ get_or first_head i 0
  in_head i inside =
      let there : 64 + i - 64 ≡ i = omega arith in
      get_or_append_left started (replicate (32 * slots + 32 * (slots + 1)) 0) 0 (64 + i) (omega (arith, inside, started_size))
      ∙ get_or-append_right (twin_header kind id total slots) first_head 64 (64 + i) 0 (header_size kind id total slots size) (omega arith)
      ∙ ap (λ k. get_or first_head k 0) there

  zero_at : (place : ℕ) → 96 ≤ place → get_or blank place 0 ≡ 0
  zero_at place behind =
      get_or-append_right started (replicate (32 * slots + 32 * (slots + 1)) 0) 96 place 0 started_size behind
      ∙ same_at (32 * slots + 32 * (slots + 1)) (place - 96) 0

  shut_at : (place : ℕ) → 96 ≤ place → ¬ (get_or blank place 0 ≡ 90)
  shut_at place behind is_open = omega (arith, zero_at place behind, is_open)

  no_slot : (later : ℕ) → ¬ (IsOpen (area_at 0 slots false) blank later)
  no_slot later = shut_at (area_at 0 slots false + 32 * later + 31) (omega arith)

  first_bytes : HasFirstBytes kind id total 0 slots blank
  first_bytes = record {
    inside = omega (arith, blank_size);
    header = λ i inside. let there : 0 + i ≡ i = omega arith in ap (λ p. get_or blank p 0) there ∙ in_header i inside;
    head = in_head;
  }

  nothing : KeptAt (area_at 0 slots false) slots [] blank
  nothing = record {
    tidy = λ earlier later before inside is_open. absurd (no_slot later is_open);
    recovered = record {
      within = omega arith;
      opened = λ slot below. absurd (omega (arith, below));
      closed = λ more. no_slot 0;
      read = refl;
    };
  }

  pub new_laid : are_twin_slots kind total slots ≡ true → IsLaid kind id total 0 slots [] blank
  new_laid fits = laid kind id total 0 slots [] blank size fits first_bytes nothing (shut_at (head_at 0 slots true + 31) (omega arith)) (omega (arith, blank_size))

pub blank_twin_is_new : BlankTwinIsNew
blank_twin_is_new kind id total slots size fits =
    let new = new_laid kind id total slots size fits in
    record {
      holds = holds_first kind id total slots (blank_twin_bytes kind id total slots) new.stands;
      says = record { second = false; area = new.area };
    }
