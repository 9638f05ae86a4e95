-- What is held begins a frame: a byte more as it comes, a byte of an element, whole elements, and a whole frame.
use Rattle.std.proofs.Common.{◌≡◌, ℕ, zero, suc, ◌+◌, ◌-◌, ◌*◌, ◌%◌, ◌<◌, ◌≤◌, ◌⊎◌, inl, inr, Bool, true, false, List, [], ◌∷◌, ◌++◌, map, flat_map, length, drop, get_or, refl, sym, ◌∙◌, ap, arith, length-append, append_assoc, append-nil, subst}
use Rattle.std.specs.Prelude.{All, vec_capacity}
use Rattle.std.specs.Int.{w64, from_le_bytes}
use Rattle.std.specs.List.{AllByRecursion}
use Rattle.std.proofs.lemmas.Bool.{cases_lt}
use Rattle.std.proofs.lemmas.List.{drop_at, nil_from_length, get_or-append-add, flat_map_more}
use Rattle.std.proofs.lemmas.List.Elements.{All-push, recursion_from_All}
use Rattle.zk_model.specs.Field.{IsElement}
use Rattle.zk_model.specs.Bytes.{element_bytes}
use Rattle.zk_model.specs.Frames.{AreElements, CanGoOn, frame_length}
use Rattle.zk_model.specs.declared.Expect.{Expect}
use Rattle.proof_frames.specs.declared.held.Held.{Held}
use Rattle.proof_frames.specs.declared.row.Field.TheVariants as field
use Rattle.proof_frames.specs.declared.row.Payload.{Payload}
use Rattle.proof_frames.specs.declared.row.Payload.TheVariants as payload
use Rattle.proof_frames.specs.declared.row.Row.{Row}
use Rattle.proof_frames.specs.declared.row.Slot.{Slot}
use Rattle.proof_frames.specs.declared.row.Slot.TheVariants as slot
use Rattle.proof_frames.specs.Holding.{AreElementsApart, AreKept, Holds, HasFrameRoom, Steps, bytes_of, is_list, elements_in, raw_length, longest, spelled}
use Rattle.proof_frames.specs.Rows.{BeginsFrame, MayFollow, May, row_of, told_at, told, header, payload_length, payload_fields, row_fields, frame_slots, field_slots, free, exactly}
use Rattle.proof_frames.proofs.Begun.{begins_more, begins_word, ends_here}
use Rattle.proof_frames.proofs.EveryRow.{told_early, told_stays, list_row, same_list}
use Rattle.proof_frames.proofs.Fields.{ComeAfter, slots, come_on, come_front, element_comes, element_slot, slot_of_element, last_seven}
use Rattle.proof_frames.proofs.FrameLemmas.{length-elements}
use Rattle.proof_frames.proofs.Lengths.{length_told, length_untold, same_length, longest_frame, front_fits}
use Rattle.proof_frames.proofs.Octets.{IsByte}
use Rattle.proof_frames.proofs.Words.{IsWordAt}

-- the bytes that are held
pub length-spelled : (start elements part : List ℕ) → length (spelled start elements part) ≡ length start + 8 * length elements + length part
length-spelled start elements part =
    omega (arith, length-append (start ++ flat_map element_bytes elements) part, length-append start (flat_map element_bytes elements), length-elements elements)

-- where no elements are held all bytes are as they came
pub only_raw : (start elements part : List ℕ) → (elements ≡ []) × (part ≡ []) → spelled start elements part ≡ start
only_raw start elements part empty =
    (λ i. start ++ flat_map element_bytes (empty.0 i) ++ empty.1 i) ∙ append-nil (start ++ []) ∙ append-nil start

-- ---- a byte as it comes

-- elements are held behind the header alone
pub raw_empty : (list : Bool) (start elements part : List ℕ) → AreKept list start elements part → (list ≡ true → length start < 5) → (elements ≡ []) × (part ≡ [])
raw_empty false start elements part kept early = kept
raw_empty true start elements part kept early = kept.first (early refl)

-- the row is told by the bytes as they came
pub told_held : (place : Expect) (start elements part : List ℕ) → told_at place < length start → told place (spelled start elements part) ≡ told place start
told_held place start elements part some =
    ap (told place) (append_assoc start (flat_map element_bytes elements) part) ∙ told_stays place start (flat_map element_bytes elements ++ part) some

pub length_held : (place : Expect) (held : Held) → told_at place < length held.start.items
    → frame_length place (bytes_of held) ≡ 5 + payload_length (row_of place (told place held.start.items)).payload
length_held place held some =
    length_told place (bytes_of held) (omega (arith, some, length-spelled held.start.items held.elements.items held.part.items))
    ∙ ap (λ byte. 5 + payload_length (row_of place byte).payload) (told_held place held.start.items held.elements.items held.part.items some)

pub length_unheld : (place : Expect) (held : Held) → Holds place held → length held.start.items ≤ told_at place → frame_length place (bytes_of held) ≡ frame_length place []
length_unheld place held holds early =
    let empty = raw_empty (is_list (longest place)) held.start.items held.elements.items held.part.items holds.kept (λ list. omega (arith, early, told_early place)) in
    length_untold place (bytes_of held)
    (omega (arith, early, length-spelled held.start.items held.elements.items held.part.items, ap length empty.0, ap length empty.1))

-- so many bytes more may come behind a header
pub run_left : (place : Expect) (held : Held) (more : List ℕ) → 5 ≤ length held.start.items
    → length (bytes_of held ++ more) ≤ frame_length place (bytes_of held ++ more)
    → length held.start.items + length more ≤ 5 + payload_length (row_of place (told place held.start.items)).payload
run_left place held more headed within =
    let sized = length-spelled held.start.items held.elements.items held.part.items in
    let some : told_at place < length held.start.items = omega (arith, headed, told_early place) in
    omega (arith, within, sized, length-append (bytes_of held) more, same_length place (bytes_of held) more (omega (arith, some, sized)), length_held place held some)

-- there is room for bytes as they come
pub raw_room : (place : Expect) (held : Held) (more : List ℕ) → Holds place held → (is_list (longest place) ≡ true → length held.start.items + length more ≤ 5)
    → length (bytes_of held ++ more) ≤ frame_length place (bytes_of held ++ more) → length held.start.items + length more ≤ vec_capacity held.start
raw_room place held more holds early within = by_payload (longest place) refl
  where
    room : raw_length (longest place) ≤ vec_capacity held.start
    room = holds.room.start

    all : length held.start.items + length more ≤ 5 + payload_length (longest place)
    all = omega (
      arith,
      within,
      longest_frame place (bytes_of held ++ more),
      length-append (bytes_of held) more,
      length-spelled held.start.items held.elements.items held.part.items,
    )

    by_payload : (p : Payload) → longest place ≡ p → length held.start.items + length more ≤ vec_capacity held.start
    by_payload (payload.Elements count) is = let few = early (ap is_list is) in omega (arith, few, room, ap raw_length is)
    by_payload (payload.Fields times first second) is = omega (arith, all, room, ap raw_length is, ap payload_length is)
    by_payload (payload.Three first second third) is = omega (arith, all, room, ap raw_length is, ap payload_length is)

-- whether a byte may come where all bytes are as they came
pub raw_follows : (place : Expect) (start given : List ℕ) (byte n : ℕ) (row : Row) (s : Slot) → row ≡ row_of place (told place (start ++ byte ∷ []))
    → s ≡ get_or (slots (row_fields row)) n free → n ≡ length start → given ≡ start → (May s given byte → MayFollow place start byte) × (MayFollow place start byte → May s given byte)
raw_follows place start given byte n row s is_row is_slot is_n is_given = (
  subst (λ (q : Slot × List ℕ). May q.0 q.1 byte) (λ i. (same i, is_given i)),
  subst (λ (q : Slot × List ℕ). May q.0 q.1 byte) (λ i. (sym same i, sym is_given i)),
)
  where
    same : s ≡ get_or (frame_slots place (told place (start ++ byte ∷ []))) (length start) free
    same = is_slot ∙ (λ j. get_or (slots (row_fields (is_row j))) (is_n j) free)

raw_kept : (list : Bool) (start elements part : List ℕ) (byte : ℕ) → AreKept list start elements part → (list ≡ true → length start < 5)
    → AreKept list (start ++ byte ∷ []) elements part
raw_kept false start elements part byte kept early = kept
raw_kept true start elements part byte kept early =
    let short = early refl in
    record {
      header = omega (arith, length-append start (byte ∷ []));
      first = λ less. kept.first short;
      ranged = kept.ranged;
      partial = kept.partial;
    }

-- what is held after a byte more
pub record Stepped (place : Expect) (list : Bool) (start elements part old : List ℕ) (byte : ℕ) : Type 0 where
  pub begun : BeginsFrame place (spelled start elements part)
  pub kept : AreKept list start elements part
  pub bytes : spelled start elements part ≡ old ++ byte ∷ []

stepped : (place : Expect) (list : Bool) (start elements part old : List ℕ) (byte : ℕ) → BeginsFrame place old → length (old ++ byte ∷ []) ≤ frame_length place (old ++ byte ∷ [])
    → MayFollow place old byte → spelled start elements part ≡ old ++ byte ∷ [] → AreKept list start elements part → Stepped place list start elements part old byte
stepped place list start elements part old byte begun within follows bytes kept =
    record { begun = subst (BeginsFrame place) (sym bytes) (begins_more place old byte begun within follows); kept = kept; bytes = bytes }

pub steps : (place : Expect) (old new : Held) (byte : ℕ) → Holds place old → HasFrameRoom place new
    → Stepped place (is_list (longest place)) new.start.items new.elements.items new.part.items (bytes_of old) byte → Steps place old byte true new
steps place old new byte holds room now = (record { short = holds.short; begun = now.begun; kept = now.kept; room = room }, now.bytes)

pub raw_step : (place : Expect) (list : Bool) (start elements part : List ℕ) (byte : ℕ) → BeginsFrame place (spelled start elements part) → AreKept list start elements part
    → (list ≡ true → length start < 5) → length (spelled start elements part ++ byte ∷ []) ≤ frame_length place (spelled start elements part ++ byte ∷ [])
    → MayFollow place start byte → Stepped place list (start ++ byte ∷ []) elements part (spelled start elements part) byte
raw_step place list start elements part byte begun kept early within follows =
    let empty = raw_empty list start elements part kept early in
    let only = only_raw start elements part empty in
    stepped place list (start ++ byte ∷ []) elements part (spelled start elements part) byte begun within (subst (λ (l : List ℕ). MayFollow place l byte) (sym only) follows)
    (only_raw (start ++ byte ∷ []) elements part empty ∙ ap (λ l. l ++ byte ∷ []) (sym only)) (raw_kept list start elements part byte kept early)

pub raw_ends : (place : Expect) (list : Bool) (start elements part : List ℕ) (byte : ℕ) → AreKept list start elements part → (list ≡ true → length start < 5)
    → ¬ MayFollow place start byte → ¬ CanGoOn place (spelled start elements part ++ byte ∷ [])
raw_ends place list start elements part byte kept early stops =
    let only = only_raw start elements part (raw_empty list start elements part kept early) in
    subst (λ (l : List ℕ). ¬ CanGoOn place (l ++ byte ∷ [])) (sym only) (ends_here place start byte stops)

-- several that may be any
begins_run : (place : Expect) (bytes run rest : List ℕ) → BeginsFrame place bytes → told_at place < length bytes → AllByRecursion IsByte run
    → ((j : ℕ) → j < length run → get_or (frame_slots place (told place bytes)) (length bytes + j) free ≡ free)
    → length (bytes ++ (run ++ rest)) ≤ frame_length place (bytes ++ (run ++ rest)) → BeginsFrame place (bytes ++ run)
begins_run place bytes [] rest begun some all any within = subst (BeginsFrame place) (sym (append-nil bytes)) begun
begins_run place bytes (byte ∷ run) rest begun some all any within =
    let next : List ℕ = bytes ++ byte ∷ [] in
    let told_so : told place next ≡ told place bytes = told_stays place bytes (byte ∷ []) some in
    let sized : length next ≡ length bytes + 1 = length-append bytes (byte ∷ []) in
    let fits : length (next ++ (run ++ rest)) ≤ frame_length place (next ++ (run ++ rest)) =
    subst (λ (l : List ℕ). length l ≤ frame_length place l) (sym (append_assoc bytes (byte ∷ []) (run ++ rest))) within in
    let here : get_or (frame_slots place (told place next)) (length bytes) free ≡ free =
    (λ i. get_or (frame_slots place (told_so i)) (let e : length bytes ≡ length bytes + 0 = omega arith in e i) free) ∙ any 0 (omega arith) in
    let small : byte < 256 = all.0 in
    let follows : MayFollow place bytes byte = subst (λ (s : Slot). May s bytes byte) (sym here) (omega arith, omega arith) in
    subst (BeginsFrame place) (append_assoc bytes (byte ∷ []) run)
    (begins_run place next run rest (begins_more place bytes byte begun (front_fits place next (run ++ rest) fits) follows) (omega (arith, some, sized)) all.1
    (λ j less. (λ i. get_or (frame_slots place (told_so i)) (let e : length next + j ≡ length bytes + suc j = omega (arith, sized) in e i) free) ∙ any (suc j) (omega arith)) fits)

pub raw_run : (place : Expect) (start elements part run rest : List ℕ) (p : Payload) → p ≡ (row_of place (told place start)).payload → is_list p ≡ false → 5 ≤ length start
    → BeginsFrame place (spelled start elements part) → AreKept (is_list (longest place)) start elements part → All IsByte run
    → ((j : ℕ) → j < length run → get_or (slots (payload_fields p)) (length start - 5 + j) free ≡ free)
    → length (spelled start elements part ++ (run ++ rest)) ≤ frame_length place (spelled start elements part ++ (run ++ rest))
    → BeginsFrame place (spelled (start ++ run) elements part) × (spelled (start ++ run) elements part ≡ spelled start elements part ++ run)
    × AreKept (is_list (longest place)) (start ++ run) elements part
raw_run place start elements part run rest p is raw long begun kept all any within =
    let list : is_list (longest place) ≡ false = sym (same_list place (told place start)) ∙ ap is_list (sym is) ∙ raw in
    let empty : (elements ≡ []) × (part ≡ []) = rw list at kept in
    let only = only_raw start elements part empty in
    let row = row_of place (told place start) in
    let bytes : spelled (start ++ run) elements part ≡ start ++ run = only_raw (start ++ run) elements part empty in (
      subst (BeginsFrame place) (sym bytes) (begins_run place start run rest (subst (BeginsFrame place) only begun) (omega (arith, long, told_early place)) (recursion_from_All IsByte run all)
          (λ j less. ap (λ n. get_or (slots (row_fields row)) n free) (let e : length start + j ≡ 5 + (length start - 5 + j) = omega (arith, long) in e)
          ∙ get_or-append-add (slots (map exactly (header row))) (slots (payload_fields row.payload)) (length start - 5 + j) free
          ∙ ap (λ q. get_or (slots (payload_fields q)) (length start - 5 + j) free) (sym is) ∙ any j less)
          (subst (λ (l : List ℕ). length (l ++ (run ++ rest)) ≤ frame_length place (l ++ (run ++ rest))) only within)),
      bytes ∙ ap (λ l. l ++ run) (sym only),
      rw list empty,
    )

-- ---- elements, where the header is whole

module _ (place : Expect) (start elements part : List ℕ) (list : is_list (longest place) ≡ true) (headed : length start ≡ 5) where
  told_start : (rest : List ℕ) → told_at place < length (spelled start elements part ++ rest)
  told_start rest =
      omega (arith, headed, told_early place, length-append (spelled start elements part) rest, length-spelled start elements part)

  frame_of : (bytes : List ℕ) → told_at place < length bytes → frame_length place bytes ≡ 5 + 8 * elements_in (longest place)
  frame_of bytes some = length_told place bytes some ∙ ap (λ p. 5 + payload_length p) (list_row place (told place bytes) list)

  -- so many bytes may still come
  pub list_left : (rest : List ℕ) → length (spelled start elements part ++ rest) ≤ frame_length place (spelled start elements part ++ rest)
      → 8 * length elements + length part + length rest ≤ 8 * elements_in (longest place)
  list_left rest within =
      omega (arith, headed, frame_of (spelled start elements part ++ rest) (told_start rest), length-append (spelled start elements part) rest, length-spelled start elements part)

  -- what may come next
  list_slot : (byte : ℕ) → length part < 8 → length (spelled start elements part ++ byte ∷ []) ≤ frame_length place (spelled start elements part ++ byte ∷ [])
      → get_or (frame_slots place (told place (spelled start elements part ++ byte ∷ []))) (length (spelled start elements part)) free
      ≡ get_or (field_slots field.Element) (length part) free
  list_slot byte partial within =
      let row = row_of place (told place (spelled start elements part ++ byte ∷ [])) in
      let n = 8 * length elements + length part in
      let left = list_left (byte ∷ []) within in
      let at : length (spelled start elements part) ≡ 5 + n = omega (arith, headed, length-spelled start elements part) in
      let is = list_row place (told place (spelled start elements part ++ byte ∷ [])) list in
      let inside : n < payload_length row.payload = rw is (let less : n < 8 * elements_in (longest place) = omega arith in less) in
      ap (λ k. get_or (slots (row_fields row)) k free) at
      ∙ get_or-append-add (slots (map exactly (header row))) (slots (payload_fields row.payload)) n free
      ∙ sym (slot_of_element row.payload (elements_in (longest place)) n is inside)
      ∙ ap (λ k. get_or (field_slots field.Element) k free) (let e : n % 8 ≡ length part = omega arith in e)

  -- a byte of an element that is not its last
  pub part_follows : (byte : ℕ) → byte < 256 → length part < 7 → length (spelled start elements part ++ byte ∷ []) ≤ frame_length place (spelled start elements part ++ byte ∷ [])
      → MayFollow place (spelled start elements part) byte
  part_follows byte small less within =
      subst (λ (s : Slot). May s (spelled start elements part) byte) (sym (list_slot byte (omega arith) within ∙ element_slot (length part) less)) (omega arith, omega arith)

  -- its last
  last_slot : (byte : ℕ) → length part ≡ 7 → length (spelled start elements part ++ byte ∷ []) ≤ frame_length place (spelled start elements part ++ byte ∷ [])
      → get_or (frame_slots place (told place (spelled start elements part ++ byte ∷ []))) (length (spelled start elements part)) free ≡ slot.Last
  last_slot byte seven within = list_slot byte (omega arith) within ∙ ap (λ k. get_or (field_slots field.Element) k free) seven

  last_bytes : length part ≡ 7 → drop (length (spelled start elements part) - 7) (spelled start elements part) ≡ part
  last_bytes seven = last_seven (start ++ flat_map element_bytes elements) part seven

  pub last_follows : (byte : ℕ) → byte < 256 → length part ≡ 7 → length (spelled start elements part ++ byte ∷ []) ≤ frame_length place (spelled start elements part ++ byte ∷ [])
      → IsElement (from_le_bytes w64 (part ++ byte ∷ [])) → MayFollow place (spelled start elements part) byte
  last_follows byte small seven within is =
      subst (λ (s : Slot). May s (spelled start elements part) byte) (sym (last_slot byte seven within))
      (small, λ many. subst (λ (l : List ℕ). IsElement (from_le_bytes w64 (l ++ byte ∷ []))) (sym (last_bytes seven)) is)

  pub last_ends : (byte : ℕ) → length part ≡ 7 → length (spelled start elements part ++ byte ∷ []) ≤ frame_length place (spelled start elements part ++ byte ∷ [])
      → ¬ IsElement (from_le_bytes w64 (part ++ byte ∷ [])) → ¬ CanGoOn place (spelled start elements part ++ byte ∷ [])
  last_ends byte seven within not = ends_here place (spelled start elements part) byte (λ follows.
      let may = subst (λ (s : Slot). May s (spelled start elements part) byte) (last_slot byte seven within) follows in
      not (subst (λ (l : List ℕ). IsElement (from_le_bytes w64 (l ++ byte ∷ []))) (last_bytes seven) (may.1 (omega (arith, seven, length-spelled start elements part)))))

-- a byte more of an element
pub part_step : (place : Expect) (start elements part : List ℕ) (byte : ℕ) → is_list (longest place) ≡ true → length start ≡ 5
    → BeginsFrame place (spelled start elements part) → AreKept (is_list (longest place)) start elements part → byte < 256 → length part < 7
    → length (spelled start elements part ++ byte ∷ []) ≤ frame_length place (spelled start elements part ++ byte ∷ [])
    → Stepped place (is_list (longest place)) start elements (part ++ byte ∷ []) (spelled start elements part) byte
part_step place start elements part byte list headed begun kept small less within =
    let apart : AreElementsApart start elements part = rw list at kept in
    stepped place (is_list (longest place)) start elements (part ++ byte ∷ []) (spelled start elements part) byte begun within
    (part_follows place start elements part list headed byte small less within)
    (sym (append_assoc (start ++ flat_map element_bytes elements) part (byte ∷ []))) (rw list (record {
      header = apart.header;
      first = λ short. absurd (omega arith);
      ranged = apart.ranged;
      partial = omega (arith, length-append part (byte ∷ []));
    }))

-- the last byte of an element
pub element_step : (place : Expect) (start elements part : List ℕ) (byte element : ℕ) → is_list (longest place) ≡ true → length start ≡ 5
    → BeginsFrame place (spelled start elements part) → AreKept (is_list (longest place)) start elements part → byte < 256 → length part ≡ 7
    → length (spelled start elements part ++ byte ∷ []) ≤ frame_length place (spelled start elements part ++ byte ∷ [])
    → element_bytes element ≡ part ++ byte ∷ [] → element ≡ from_le_bytes w64 (part ++ byte ∷ []) → IsElement element
    → Stepped place (is_list (longest place)) start (elements ++ element ∷ []) [] (spelled start elements part) byte
element_step place start elements part byte element list headed begun kept small seven within spells says is =
    let apart : AreElementsApart start elements part = rw list at kept in
    let bytes : List ℕ = flat_map element_bytes elements in
    stepped place (is_list (longest place)) start (elements ++ element ∷ []) [] (spelled start elements part) byte begun within
    (last_follows place start elements part list headed byte small seven within (subst IsElement says is))
    (append-nil (start ++ flat_map element_bytes (elements ++ element ∷ []))
    ∙ sym (flat_map_more element_bytes start elements element)
    ∙ ap (λ l. (start ++ bytes) ++ l) spells
    ∙ sym (append_assoc (start ++ bytes) part (byte ∷ []))) (rw list (record {
      header = apart.header;
      first = λ short. absurd (omega arith);
      ranged = All-push IsElement elements element apart.ranged is;
      partial = omega arith;
    }))

-- ---- whole elements

elements_come : (count : ℕ) (before elements : List ℕ) → length elements ≤ count → AllByRecursion IsElement elements
    → ComeAfter (slots (payload_fields (payload.Elements count))) before (flat_map element_bytes elements)
elements_come count before [] few all = λ n less. absurd (omega arith)
elements_come zero before (element ∷ elements) few all = absurd (omega arith)
elements_come (suc count) before (element ∷ elements) few all =
    come_on (field_slots field.Element) (slots (payload_fields (payload.Elements count))) before (element_bytes element) (flat_map element_bytes elements) refl
    (element_comes before (element_bytes element) (record { element = element; is = all.0; spelled = refl }))
    (elements_come count (before ++ element_bytes element) elements (omega arith) all.1)

-- other elements after the same header
pub elements_step : (place : Expect) (start elements now : List ℕ) → is_list (longest place) ≡ true → length start ≡ 5 → BeginsFrame place (spelled start elements [])
    → All IsElement now → 8 * length now ≤ 8 * elements_in (longest place) → BeginsFrame place (spelled start now []) × AreKept (is_list (longest place)) start now []
elements_step place start elements now list headed begun ranged few = (
  record {
    within = within;
    each = subst (ComeAfter (frame_slots place (told place (spelled start now []))) []) (sym (append-nil (start ++ bytes)))
        (come_on (slots (map exactly (header row))) (slots (payload_fields row.payload)) [] start bytes (sym headed) first
        (subst (λ (p : Payload). ComeAfter (slots (payload_fields p)) start bytes) (sym (list_row place (told place (spelled start now [])) list))
        (elements_come (elements_in (longest place)) start now (omega arith) (recursion_from_All IsElement now ranged))));
  },
  rw list (record { header = omega arith; first = λ short. absurd (omega arith); ranged = ranged; partial = omega arith }),
)
  where
    bytes : List ℕ
    bytes = flat_map element_bytes now

    row : Row
    row = row_of place (told place (spelled start now []))

    sized : length (spelled start now []) ≡ length start + 8 * length now + 0
    sized = length-spelled start now []

    some : told_at place < length (spelled start now [])
    some = omega (arith, headed, told_early place, sized)

    within : length (spelled start now []) ≤ frame_length place (spelled start now [])
    within = omega (arith, headed, few, sized, frame_of place start now [] list headed (spelled start now []) some)

    -- both begin with the header
    told_both : (others : List ℕ) → told place (spelled start others []) ≡ told place start
    told_both others = told_held place start others [] (omega (arith, headed, told_early place))

    first : ComeAfter (slots (map exactly (header row))) [] start
    first =
        let old = begun.each in
        come_front (slots (map exactly (header row))) (slots (payload_fields row.payload)) [] start (flat_map element_bytes elements ++ []) (sym headed)
        (subst (ComeAfter (frame_slots place (told place (spelled start now []))) []) (append_assoc start (flat_map element_bytes elements) [])
        (subst (λ (k : ℕ). ComeAfter (frame_slots place k) [] (spelled start elements [])) (told_both elements ∙ sym (told_both now)) old))

-- ---- whole frames

-- a whole frame of elements
pub record HoldsAll (place : Expect) (start elements part : List ℕ) (count : ℕ) : Type 0 where
  pub are : AreElements count elements
  pub word : IsWordAt place (spelled start elements part)
  pub behind : flat_map element_bytes elements ≡ drop 5 (spelled start elements part)

pub finished_elements : (place : Expect) (start elements part : List ℕ) (count : ℕ) → longest place ≡ payload.Elements count → BeginsFrame place (spelled start elements part)
    → AreKept (is_list (longest place)) start elements part → length (spelled start elements part) ≡ frame_length place (spelled start elements part)
    → HoldsAll place start elements part count
finished_elements place start elements part count is begun kept whole = by_length (cases_lt (length start) 5)
  where
    list : is_list (longest place) ≡ true
    list = ap is_list is

    apart : AreElementsApart start elements part
    apart = rw list at kept

    word : IsWordAt place (spelled start elements part)
    word = begins_word place (spelled start elements part) begun whole

    by_length : (length start < 5) ⊎ (5 ≤ length start) → HoldsAll place start elements part count
    by_length (inl short) =
        let empty = apart.first short in
        absurd (omega (arith, length-spelled start elements part, ap length empty.0, ap length empty.1, ap length word.spelled, length-append (header (row_of place (told place (spelled start elements part)))) word.payload))
    by_length (inr long) =
        let most = apart.header in
        let partial = apart.partial in
        let headed : length start ≡ 5 = omega arith in
        let some : told_at place < length (spelled start elements part) = omega (arith, headed, told_early place, length-spelled start elements part) in
        let total : 5 + 8 * length elements + length part ≡ 5 + 8 * count =
        omega (arith, headed, length-spelled start elements part, whole, frame_of place start elements part list headed (spelled start elements part) some, ap elements_in is) in
        let none : part ≡ [] = nil_from_length part (omega (arith, total)) in
        let bytes : List ℕ = flat_map element_bytes elements in
        record {
          are = record { counted = omega (arith, total); ranged = apart.ranged };
          word = word;
          behind = sym (ap (drop 5) (ap (λ l. (start ++ bytes) ++ l) none ∙ append-nil (start ++ bytes)) ∙ drop_at start bytes 5 headed);
        }

-- a whole frame whose bytes are as they came
pub finished_raw : (place : Expect) (start elements part : List ℕ) → is_list (longest place) ≡ false → BeginsFrame place (spelled start elements part)
    → AreKept (is_list (longest place)) start elements part → length (spelled start elements part) ≡ frame_length place (spelled start elements part)
    → (spelled start elements part ≡ start) × IsWordAt place start
finished_raw place start elements part list begun kept whole =
    let empty : (elements ≡ []) × (part ≡ []) = rw list at kept in
    let only = only_raw start elements part empty in
    (only, subst (IsWordAt place) only (begins_word place (spelled start elements part) begun whole))
