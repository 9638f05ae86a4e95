-- What stands in a file where a journal was written.
use Rattle.std.proofs.Common.{◌≡◌, ◌<◌, ◌≤◌, ◌^◌, true, false, ap, sym, ◌+◌, ◌*◌, ◌++◌, ℕ, List, [], ◌∷◌, length, get_or, take, drop, replicate, codes, Option, Some, None, IfSome, inl, refl, ◌∙◌, subst, arith}
use Rattle.std.specs.Int.{w64, to_le_bytes, from_le_bytes}
use Rattle.std.proofs.lemmas.List.{ext_get_or, get_or-take, get_or-drop, get_or_append_left, get_or-append_right, length-append, length-drop, length-take}
use Rattle.std.proofs.lemmas.Nat.{from_le_bytes-to_le_bytes_8}
use Rattle.std.specs.Option.{option_map}
use Rattle.zk_port.specs.Images.{IsTorn, StepsBy, written_at}
use Rattle.zk_port.proofs.Torn.{torn_by_write}
use Rattle.zk_model.specs.declared.JournalKind.{JournalKind}
use Rattle.lease_journal.specs.Twins.{IsHeadOpen, area_at, are_twin_slots, first_head, generation_at, head_at, is_twin_wrong_at, twin_code, twin_header, twin_length, twin_slots_at}
use Rattle.lease_journal.specs.Causes.{KeptAt}
use Rattle.lease_journal.proofs.Newly.{not_wrong}
use Rattle.lease_journal.proofs.Torn.{behind_torn, written_inside, written_size}
use Rattle.twin_journal.specs.Filling.{AreBodySlots, IsFilled}
use Rattle.twin_journal.specs.Laying.{HasAllBytes, HasFirstBytes, IsLaid}
use Rattle.twin_journal.proofs.HeaderReads.{fits_few}
use Rattle.twin_journal.proofs.SameAreas.{filled_recovers, filled_tidy, recovers_still, tidy_same}

pub header_size : (kind : JournalKind) (id : List ℕ) (total slots : ℕ) → length id ≡ 32 → length (twin_header kind id total slots) ≡ 64
header_size kind id total slots size =
    let magic : length (codes "WQSJRNL1") ≡ 8 = refl in
    let kinds : length (twin_code kind ∷ replicate 7 0) ≡ 8 = refl in
    let totals : length (to_le_bytes w64 total) ≡ 8 = refl in
    let numbers : length (to_le_bytes w64 slots) ≡ 8 = refl in
    omega (
      arith,
      size,
      magic,
      kinds,
      totals,
      numbers,
      length-append (codes "WQSJRNL1") ((twin_code kind ∷ replicate 7 0) ++ to_le_bytes w64 total ++ to_le_bytes w64 slots ++ id),
      length-append (twin_code kind ∷ replicate 7 0) (to_le_bytes w64 total ++ to_le_bytes w64 slots ++ id),
      length-append (to_le_bytes w64 total) (to_le_bytes w64 slots ++ id),
      length-append (to_le_bytes w64 slots) id,
    )

-- a header but for its number of slots
abbrev front : JournalKind → ℕ → List ℕ
front kind total = codes "WQSJRNL1" ++ (twin_code kind ∷ replicate 7 0) ++ to_le_bytes w64 total

same_front : (kind : JournalKind) (id : List ℕ) (total slots place : ℕ) → place < 24
    → get_or (twin_header kind id total slots) place 0 ≡ get_or (twin_header kind id total 0) place 0
same_front kind id total slots place ahead =
    let size : length (front kind total) ≡ 24 = refl in
    get_or_append_left (front kind total) (to_le_bytes w64 slots ++ id) 0 place (omega (arith, ahead, size))
    ∙ sym (get_or_append_left (front kind total) (to_le_bytes w64 0 ++ id) 0 place (omega (arith, ahead, size)))

same_id : (kind : JournalKind) (id : List ℕ) (total slots place : ℕ) → 32 ≤ place
    → get_or (twin_header kind id total slots) place 0 ≡ get_or (twin_header kind id total 0) place 0
same_id kind id total slots place behind =
    get_or-append_right (front kind total ++ to_le_bytes w64 slots) id 32 place 0 refl behind
    ∙ sym (get_or-append_right (front kind total ++ to_le_bytes w64 0) id 32 place 0 refl behind)

-- bytes that agree with those of a list from a place on have its parts
part_at : (bytes model : List ℕ) (at off n : ℕ) → at + (off + n) ≤ length bytes → off + n ≤ length model
    → ((i : ℕ) → i < off + n → get_or bytes (at + i) 0 ≡ get_or model i 0) → take n (drop (at + off) bytes) ≡ take n (drop off model)
part_at bytes model at off n inside within same =
    let here : length (take n (drop (at + off) bytes)) ≡ n = length-take n (drop (at + off) bytes) ∙ (omega (arith, length-drop (at + off) bytes, inside)) in
    let there : length (take n (drop off model)) ≡ n = length-take n (drop off model) ∙ (omega (arith, length-drop off model, within)) in
    ext_get_or 0 (take n (drop (at + off) bytes)) (take n (drop off model)) (here ∙ sym there) (λ i below.
    let ahead : i < n = omega (arith, below, here) in
    let place : at + off + i ≡ at + (off + i) = omega arith in
    get_or-take n (drop (at + off) bytes) i 0 ahead ∙ get_or-drop (at + off) bytes i 0 ∙ ap (λ p. get_or bytes p 0) place ∙ same (off + i) (omega (arith, ahead))
    ∙ sym (get_or-take n (drop off model) i 0 ahead ∙ get_or-drop off model i 0))

module _ (kind : JournalKind) (id : List ℕ) (total begin slots : ℕ) (bodies : List (ℕ × ℕ)) (bytes : List ℕ) (size : length id ≡ 32)
    (fits : are_twin_slots kind total slots ≡ true) (first : HasFirstBytes kind id total begin slots bytes) where
  few : slots ≤ 2 ^ 28
  few = fits_few kind total slots fits

  says : twin_slots_at begin bytes ≡ slots
  says =
      ap (from_le_bytes w64) (part_at bytes (twin_header kind id total slots) begin 24 8 (omega (arith, first.inside))
      (omega (arith, header_size kind id total slots size)) (λ i below. first.header i (omega (arith, below))))
      ∙ from_le_bytes-to_le_bytes_8 slots (omega (arith, few))

  right : (place : ℕ) → place < 64 → is_twin_wrong_at kind id total begin bytes place ≡ false
  right place inside =
      not_wrong place (get_or bytes (begin + place) 0) (get_or (twin_header kind id total 0) place 0)
      (are_twin_slots kind total (twin_slots_at begin bytes)) (ap (are_twin_slots kind total) says ∙ fits)
      (λ ahead. first.header place inside ∙ same_front kind id total slots place ahead)
      (λ behind. first.header place inside ∙ same_id kind id total slots place behind)

  generation_one : generation_at begin slots bytes false ≡ 1
  generation_one =
      let here : begin + 64 ≡ begin + 64 + 0 = omega arith in
      ap (from_le_bytes w64) (ap (λ p. take 8 (drop p bytes)) here ∙ part_at bytes first_head (begin + 64) 0 8 (omega (arith, first.inside)) (omega arith)
      (λ i below. first.head i (omega (arith, below))))

  pub laid : KeptAt (area_at begin slots false) slots bodies bytes → ¬ (IsHeadOpen begin slots bytes true) → begin + twin_length slots ≤ length bytes
      → IsLaid kind id total begin slots bodies bytes
  laid kept shut full = record {
    stands = record {
      header = record { whole = omega (arith, first.inside); right = right };
      says = says;
      full = full;
    };
    area = record {
      active = record { opened = first.head 31 (omega arith); before = λ other. absurd (shut other) };
      generation_is = generation_one;
      tidy = kept.tidy;
      recovered = kept.recovered;
    };
    shut = shut;
  }

  -- after both areas were filled
  module _ (second : ℕ) (second_is : second ≡ head_at begin slots true) (few_bodies : length bodies ≤ slots) (middle last : List ℕ)
      (slots_torn : IsTorn (begin + 96) (32 * slots) bytes middle) (filled : IsFilled (begin + 96) slots bodies middle)
      (second_torn : IsTorn second (32 * (slots + 1)) middle last) (empty : IsFilled second (slots + 1) [] last) where
    first_stays : (place : ℕ) → place < begin + 96 → get_or last place 0 ≡ get_or bytes place 0
    first_stays place ahead =
        second_torn.kept place (omega (arith, ahead, first.inside, slots_torn.least)) (inl (omega (arith, ahead, second_is)))
        ∙ slots_torn.kept place (omega (arith, ahead, first.inside)) (inl ahead)

    slots_stay : (i : ℕ) → i < 32 * slots → get_or last (begin + 96 + i) 0 ≡ get_or middle (begin + 96 + i) 0
    slots_stay i inside = second_torn.kept (begin + 96 + i) (omega (arith, inside, filled.inside)) (inl (omega (arith, inside, second_is)))

    pub first_then : HasFirstBytes kind id total begin slots last
    first_then = record {
      inside = omega (arith, first.inside, slots_torn.least, second_torn.least);
      header = λ i inside. first_stays (begin + i) (omega (arith, inside)) ∙ first.header i inside;
      head = λ i inside. first_stays (begin + 64 + i) (omega (arith, inside)) ∙ first.head i inside;
    }

    pub kept_then : KeptAt (area_at begin slots false) slots bodies last
    kept_then =
        let inside : begin + 96 + 32 * slots ≤ length middle = filled.inside in
        let place : begin + 96 ≡ area_at begin slots false = omega arith in
        subst (λ n. KeptAt n slots bodies last) place (record {
          tidy = tidy_same (begin + 96) slots middle last inside second_torn.least slots_stay (filled_tidy (begin + 96) slots bodies middle filled);
          recovered = recovers_still (begin + 96) slots middle last inside second_torn.least slots_stay bodies (filled_recovers (begin + 96) slots bodies middle few_bodies filled);
        })

    pub shut_then : ¬ (IsHeadOpen begin slots last true)
    shut_then is_open =
        let there : head_at begin slots true + 31 ≡ second + 32 * 0 + 31 = omega (arith, second_is) in
        empty.closed 0 (omega arith) (omega arith) (sym (ap (λ p. get_or last p 0) there) ∙ is_open)

    pub all_then : HasAllBytes kind id total begin slots bodies last
    all_then =
        let place : begin + 96 ≡ area_at begin slots false = omega arith in
        record {
          first = first_then;
          slots_are = subst (λ n. AreBodySlots n slots bodies last) place (λ slot below i inside.
              let there : begin + 96 + 32 * slot + i ≡ begin + 96 + (32 * slot + i) = omega arith in
              ap (λ p. get_or last p 0) there ∙ slots_stay (32 * slot + i) (omega (arith, below, inside)) ∙ sym (ap (λ p. get_or middle p 0) there)
              ∙ filled.exact slot below i inside);
          zeros = subst (λ n. AreBodySlots n (slots + 1) [] last) second_is empty.exact;
        }

    pub full_then : begin + twin_length slots ≤ length last
    full_then = omega (arith, empty.inside, second_is)

-- what a disk tells after the first bytes were written
pub first_told : (kind : JournalKind) (id : List ℕ) (total begin slots : ℕ) (header head : List ℕ) → length id ≡ 32 → header ≡ twin_header kind id total slots → head ≡ first_head
    → (old middle new : Option (List ℕ)) → middle ≡ option_map (written_at begin header) old → new ≡ option_map (written_at (begin + 64) head) middle
    → IfSome new (HasFirstBytes kind id total begin slots)
first_told kind id total begin slots header head size is_header is_head None middle new first second =
    subst (λ o. IfSome o (HasFirstBytes kind id total begin slots)) (sym (second ∙ ap (option_map (written_at (begin + 64) head)) first)) tt
first_told kind id total begin slots header head size is_header is_head (Some old) middle new first second =
    subst (λ o. IfSome o (HasFirstBytes kind id total begin slots)) (sym (second ∙ ap (option_map (written_at (begin + 64) head)) first)) (record {
      inside = omega (arith, written_size (begin + 64) head now (omega (arith, head_long)), head_long);
      header = λ i inside.
          torn.kept (begin + i) (omega (arith, inside, now_long)) (inl (omega (arith, inside)))
          ∙ written_inside begin header old i (omega (arith, inside, header_long))
          ∙ ap (λ (l : List ℕ). get_or l i 0) is_header;
      head = λ i inside. written_inside (begin + 64) head now i (omega (arith, inside, head_long)) ∙ ap (λ (l : List ℕ). get_or l i 0) is_head;
    })
  where
    header_long : length header ≡ 64
    header_long = ap length is_header ∙ header_size kind id total slots size

    head_long : length head ≡ 32
    head_long = ap length is_head

    now : List ℕ
    now = written_at begin header old

    now_long : begin + 64 ≤ length now
    now_long = omega (arith, written_size begin header old (omega (arith, header_long)), header_long)

    torn : IsTorn (begin + 64) (length head) now (written_at (begin + 64) head now)
    torn = torn_by_write (begin + 64) head now

-- what a disk tells after both areas were filled
pub told_laid : (kind : JournalKind) (id : List ℕ) (total begin slots second : ℕ) (bodies : List (ℕ × ℕ)) → length id ≡ 32 → are_twin_slots kind total slots ≡ true
    → second ≡ head_at begin slots true → length bodies ≤ slots → (old middle new : Option (List ℕ)) → IfSome old (HasFirstBytes kind id total begin slots)
    → StepsBy (IsTorn (begin + 96) (32 * slots)) old middle → ((b : List ℕ) → old ≡ Some b → begin + 96 ≤ length b → IfSome middle (IsFilled (begin + 96) slots bodies))
    → StepsBy (IsTorn second (32 * (slots + 1))) middle new → ((b : List ℕ) → middle ≡ Some b → second ≤ length b → IfSome new (IsFilled second (slots + 1) []))
    → IfSome new (IsLaid kind id total begin slots bodies)
told_laid kind id total begin slots second bodies size fits is few None middle new first one filled two empty =
    subst (λ o. IfSome o (IsLaid kind id total begin slots bodies)) (sym (gone middle new one two)) tt
  where
    gone : (middle new : Option (List ℕ)) → middle ≡ None → StepsBy (IsTorn second (32 * (slots + 1))) middle new → new ≡ None
    gone middle new none steps = subst (λ o. StepsBy (IsTorn second (32 * (slots + 1))) o new) none steps
told_laid kind id total begin slots second bodies size fits is few (Some b) None new first one filled two empty = absurd one
told_laid kind id total begin slots second bodies size fits is few (Some b) (Some m) None first one filled two empty = absurd two
told_laid kind id total begin slots second bodies size fits is few (Some b) (Some m) (Some last) first one filled two empty =
    let in_slots = filled b refl first.inside in
    let in_second = empty m refl (omega (arith, is, in_slots.inside)) in
    laid kind id total begin slots bodies last size fits
    (first_then kind id total begin slots bodies b size fits first second is few m last one in_slots two in_second)
    (kept_then kind id total begin slots bodies b size fits first second is few m last one in_slots two in_second)
    (shut_then kind id total begin slots bodies b size fits first second is few m last one in_slots two in_second)
    (full_then kind id total begin slots bodies b size fits first second is few m last one in_slots two in_second)

-- and to the byte
pub told_all : (kind : JournalKind) (id : List ℕ) (total begin slots second : ℕ) (bodies : List (ℕ × ℕ)) → length id ≡ 32 → are_twin_slots kind total slots ≡ true
    → second ≡ head_at begin slots true → length bodies ≤ slots → (old middle new : Option (List ℕ)) → IfSome old (HasFirstBytes kind id total begin slots)
    → StepsBy (IsTorn (begin + 96) (32 * slots)) old middle → ((b : List ℕ) → old ≡ Some b → begin + 96 ≤ length b → IfSome middle (IsFilled (begin + 96) slots bodies))
    → StepsBy (IsTorn second (32 * (slots + 1))) middle new → ((b : List ℕ) → middle ≡ Some b → second ≤ length b → IfSome new (IsFilled second (slots + 1) []))
    → IfSome new (HasAllBytes kind id total begin slots bodies)
told_all kind id total begin slots second bodies size fits is few None middle new first one filled two empty =
    subst (λ o. IfSome o (HasAllBytes kind id total begin slots bodies)) (sym (gone middle new one two)) tt
  where
    gone : (middle new : Option (List ℕ)) → middle ≡ None → StepsBy (IsTorn second (32 * (slots + 1))) middle new → new ≡ None
    gone middle new none steps = subst (λ o. StepsBy (IsTorn second (32 * (slots + 1))) o new) none steps
told_all kind id total begin slots second bodies size fits is few (Some b) None new first one filled two empty = absurd one
told_all kind id total begin slots second bodies size fits is few (Some b) (Some m) None first one filled two empty = absurd two
told_all kind id total begin slots second bodies size fits is few (Some b) (Some m) (Some last) first one filled two empty =
    let in_slots = filled b refl first.inside in
    let in_second = empty m refl (omega (arith, is, in_slots.inside)) in
    all_then kind id total begin slots bodies b size fits first second is few m last one in_slots two in_second

-- a write before the journal leaves each byte of it
module _ (kind : JournalKind) (id : List ℕ) (total begin slots : ℕ) (bodies : List (ℕ × ℕ)) (at : ℕ) (bytes : List ℕ) (ahead : at + length bytes ≤ begin) where
  all_kept : (old : List ℕ) → HasAllBytes kind id total begin slots bodies old → HasAllBytes kind id total begin slots bodies (written_at at bytes old)
  all_kept old all =
      let new : List ℕ = written_at at bytes old in
      let torn : IsTorn at (length bytes) old (written_at at bytes old) = torn_by_write at bytes old in
      let same : (place : ℕ) → begin ≤ place → get_or (written_at at bytes old) place 0 ≡ get_or old place 0 =
      λ place from. behind_torn at (length bytes) old (written_at at bytes old) torn place (omega (arith, from, ahead)) in
      record {
        first = record {
          inside = omega (arith, all.first.inside, torn.least);
          header = λ i inside. same (begin + i) (omega arith) ∙ all.first.header i inside;
          head = λ i inside. same (begin + 64 + i) (omega arith) ∙ all.first.head i inside;
        };
        slots_are = λ slot below i inside. same (area_at begin slots false + 32 * slot + i) (omega arith) ∙ all.slots_are slot below i inside;
        zeros = λ slot below i inside. same (head_at begin slots true + 32 * slot + i) (omega arith) ∙ all.zeros slot below i inside;
      }

  pub all_told : (old new : Option (List ℕ)) → new ≡ option_map (written_at at bytes) old → IfSome old (HasAllBytes kind id total begin slots bodies)
      → IfSome new (HasAllBytes kind id total begin slots bodies)
  all_told None new is has = subst (λ o. IfSome o (HasAllBytes kind id total begin slots bodies)) (sym is) tt
  all_told (Some old) new is has = subst (λ o. IfSome o (HasAllBytes kind id total begin slots bodies)) (sym is) (all_kept old has)
