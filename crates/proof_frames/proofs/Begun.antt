-- Bytes that begin a frame: one byte more, the front, whole words, what can go on, and the first bad byte.
use Rattle.std.proofs.Common.{◌≡◌, ℕ, zero, suc, ◌+◌, ◌-◌, ◌<◌, ◌≤◌, ◌⊎◌, inl, inr, List, [], ◌∷◌, ◌++◌, map, length, take, drop, get_or, refl, sym, ◌∙◌, ap, arith, length-append, subst, take-append-drop}
use Rattle.std.specs.Prelude.{All}
use Rattle.std.specs.Int.{w32, w64, from_le_bytes}
use Rattle.std.proofs.lemmas.Bool.{cases_lt}
use Rattle.std.proofs.lemmas.List.{take_all, take_at, take_more, take-append-le, get_or_push, get_or_append_left}
use Rattle.std.proofs.lemmas.List.Elements.{All-get_or}
use Rattle.zk_model.specs.Field.{prime}
use Rattle.zk_model.specs.Frames.{CanGoOn, IsFirstBad, frame_length, frame_spelling}
use Rattle.zk_model.specs.declared.Expect.{Expect}
use Rattle.proof_frames.specs.declared.row.Slot.{Slot}
use Rattle.proof_frames.specs.declared.row.Slot.TheVariants as slot
use Rattle.proof_frames.specs.declared.row.Row.{Row}
use Rattle.proof_frames.specs.Laws.{GoesOnOrIsBad, NeverBoth, WholeWantsNothing, NothingWantedIsWhole}
use Rattle.proof_frames.specs.Rows.{FitsFields, BeginsFrame, Come, MayFollow, May, last_bytes, next_with, number_size, row_of, told_at, told, header, payload_length, payload_fields, row_fields, frame_slots, free, exactly}
use Rattle.proof_frames.proofs.Completed.{completes}
use Rattle.proof_frames.proofs.EveryRow.{told_early, told_stays, early_slot, header_tells, sound_row}
use Rattle.proof_frames.proofs.Fields.{slots, come_fits, fits_come, fits_append, fits_split, exact_fits, fits_exact, payload_sized}
use Rattle.proof_frames.proofs.Lengths.{told_within, length_told, front_fits, word_length, whole_length}
use Rattle.proof_frames.proofs.Octets.{IsByte}
use Rattle.proof_frames.proofs.Words.{IsWord, IsWordAt, allowed_word, word_whole}

-- ---- bytes that may come

-- what may come is told by one byte
retold : (place : Expect) (bytes : List ℕ) (one other : ℕ) → (told_at place < length bytes → one ≡ other) → Come (frame_slots place one) bytes → Come (frame_slots place other) bytes
retold place bytes one other same come = λ n less.
    subst (λ (s : Slot). May s (take n bytes) (get_or bytes n 0)) (by_length n less (cases_lt (told_at place) (length bytes))) (come n less)
  where
    by_length : (n : ℕ) → n < length bytes → (told_at place < length bytes) ⊎ (length bytes ≤ told_at place) → get_or (frame_slots place one) n free ≡ get_or (frame_slots place other) n free
    by_length n less (inl some) = ap (λ k. get_or (frame_slots place k) n free) (same some)
    by_length n less (inr early) = early_slot place one other n (omega arith)

come_more : (slots : List Slot) (bytes : List ℕ) (byte : ℕ) → Come slots bytes → May (get_or slots (length bytes) free) bytes byte → Come slots (bytes ++ byte ∷ [])
come_more slots bytes byte come may = λ n less. by_place n less (cases_lt n (length bytes))
  where
    by_place : (n : ℕ) → n < length (bytes ++ byte ∷ []) → (n < length bytes) ⊎ (length bytes ≤ n) → May (get_or slots n free) (take n (bytes ++ byte ∷ [])) (get_or (bytes ++ byte ∷ []) n 0)
    by_place n less (inl early) =
        subst (λ (q : List ℕ × ℕ). May (get_or slots n free) q.0 q.1)
        (λ i. (sym (take-append-le n bytes (byte ∷ []) (let k : n ≤ length bytes = omega arith in k)) i, sym (get_or_append_left bytes (byte ∷ []) 0 n early) i)) (come n early)
    by_place n less (inr late) =
        let at : length bytes ≡ n = omega (arith, length-append bytes (byte ∷ [])) in
        subst (λ (q : ℕ × (List ℕ × ℕ)). May (get_or slots q.0 free) q.1.0 q.1.1)
        (λ i. (at i, (sym (take_at bytes (byte ∷ []) n at) i, sym (get_or_push bytes byte 0 n at) i))) may

come_fewer : (slots : List Slot) (bytes more : List ℕ) → Come slots (bytes ++ more) → Come slots bytes
come_fewer slots bytes more come = λ n less.
    subst (λ (q : List ℕ × ℕ). May (get_or slots n free) q.0 q.1)
    (λ i. (take-append-le n bytes more (let k : n ≤ length bytes = omega arith in k) i, get_or_append_left bytes more 0 n less i)) (come n (omega (arith, length-append bytes more)))

-- ---- bytes that begin a frame

-- nothing does
pub nothing_begins : (place : Expect) → BeginsFrame place []
nothing_begins place = record { within = omega arith; each = λ n less. absurd (omega arith) }

-- and so do one byte more that may come
pub begins_more : (place : Expect) (bytes : List ℕ) (byte : ℕ) → BeginsFrame place bytes → length (bytes ++ byte ∷ []) ≤ frame_length place (bytes ++ byte ∷ [])
    → MayFollow place bytes byte → BeginsFrame place (bytes ++ byte ∷ [])
begins_more place bytes byte begun within follows =
    let all : List ℕ = bytes ++ byte ∷ [] in
    record {
      within = within;
      each = come_more (frame_slots place (told place all)) bytes byte
          (retold place bytes (told place bytes) (told place all) (λ some. sym (told_stays place bytes (byte ∷ []) some)) begun.each) follows;
    }

-- and fewer
begins_front : (place : Expect) (bytes more : List ℕ) → BeginsFrame place (bytes ++ more) → BeginsFrame place bytes
begins_front place bytes more begun = record {
  within = front_fits place bytes more begun.within;
  each = retold place bytes (told place (bytes ++ more)) (told place bytes) (told_stays place bytes more) (come_fewer (frame_slots place (told place (bytes ++ more))) bytes more begun.each);
}

pub begins_fewer : (place : Expect) (bytes : List ℕ) (n : ℕ) → BeginsFrame place bytes → BeginsFrame place (take n bytes)
begins_fewer place bytes n begun = begins_front place (take n bytes) (drop n bytes) (subst (BeginsFrame place) (sym (take-append-drop n bytes)) begun)

-- ---- whole words

pub word_begins : (place : Expect) (word : List ℕ) → IsWordAt place word → BeginsFrame place word
word_begins place word is =
    let row = row_of place (told place word) in
    record {
      within = omega (arith, word_length place word is);
      each = fits_come (row_fields row) [] word
          (subst (FitsFields (row_fields row)) (sym is.spelled) (fits_append (map exactly (header row)) (payload_fields row.payload) (header row) is.payload (exact_fits (header row)) is.fits));
    }

-- bytes that the fields of a row allow
fits_word : (place : Expect) (byte : ℕ) (word : List ℕ) → FitsFields (row_fields (row_of place byte)) word → IsWordAt place word
fits_word place byte word fits =
    let row = row_of place byte in
    let apart = fits_split (map exactly (header row)) (payload_fields row.payload) word fits in
    let spelled : word ≡ header row ++ apart.1 = apart.2 ∙ ap (λ l. l ++ apart.1) (fits_exact (header row) apart.0 apart.3) in
    let same : row_of place (told place word) ≡ row =
    ap (row_of place) (ap (told place) spelled ∙ told_stays place (header row) apart.1 (omega (arith, told_early place))) ∙ header_tells place byte in
    subst (λ (r : Row). IsWord r word) (sym same) (record { payload = apart.1; fits = apart.4; spelled = spelled })

pub begins_word : (place : Expect) (word : List ℕ) → BeginsFrame place word → length word ≡ frame_length place word → IsWordAt place word
begins_word place word begun whole =
    let row = row_of place (told place word) in
    let told_length = length_told place word (omega (arith, whole, told_within place word)) in
    fits_word place (told place word) word
    (come_fits (row_fields row) [] word begun.each (omega (arith, whole, told_length, payload_sized row.payload)))

-- ---- what can go on

pub begins_can : (place : Expect) (bytes : List ℕ) → BeginsFrame place bytes → CanGoOn place bytes
begins_can place bytes begun =
    let row = row_of place (told place bytes) in
    let few : length bytes ≤ 5 + payload_length row.payload = by_length (cases_lt (told_at place) (length bytes)) in
    let on = completes (row_fields row) [] bytes (sound_row place (told place bytes)) begun.each (omega (arith, few, payload_sized row.payload)) in
    let whole = word_whole place (bytes ++ on.0) (fits_word place (told place bytes) (bytes ++ on.0) on.1) in
    record { frame = whole.0; allowed = whole.1.allowed; begun = (on.0, sym whole.1.spelled) }
  where
    by_length : (told_at place < length bytes) ⊎ (length bytes ≤ told_at place) → length bytes ≤ 5 + payload_length (row_of place (told place bytes)).payload
    by_length (inl some) = let within = begun.within in omega (arith, length_told place bytes some)
    by_length (inr early) = omega (arith, early, told_early place)

pub can_begins : (place : Expect) (bytes : List ℕ) → CanGoOn place bytes → BeginsFrame place bytes
can_begins place bytes can =
    begins_front place bytes can.begun.0 (subst (BeginsFrame place) can.begun.1 (word_begins place (frame_spelling can.frame) (allowed_word place can.frame can.allowed)))

-- a byte that may not come is bad
pub ends_here : (place : Expect) (bytes : List ℕ) (byte : ℕ) → ¬ MayFollow place bytes byte → ¬ CanGoOn place (bytes ++ byte ∷ [])
ends_here place bytes byte stops = λ can.
    let here = (can_begins place (bytes ++ byte ∷ []) can).each (length bytes) (omega (arith, length-append bytes (byte ∷ []))) in
    stops (subst (λ (q : List ℕ × ℕ). May (get_or (frame_slots place (told place (bytes ++ byte ∷ []))) (length bytes) free) q.0 q.1)
    (λ i. (take_at bytes (byte ∷ []) (length bytes) refl i, get_or_push bytes byte 0 (length bytes) refl i)) here)

-- ---- the first bad byte

may_or_not : (s : Slot) (before : List ℕ) (byte : ℕ) → byte < 256 → May s before byte ⊎ (¬ May s before byte)
may_or_not (slot.Range least most) before byte small = by_order (cases_lt byte least) (cases_lt most byte)
  where
    by_order : (byte < least) ⊎ (least ≤ byte) → (most < byte) ⊎ (byte ≤ most) → May (slot.Range least most) before byte ⊎ (¬ May (slot.Range least most) before byte)
    by_order (inl below) high = inr (λ may. let low = may.0 in omega arith)
    by_order (inr low) (inl above) = inr (λ may. let high = may.1 in omega arith)
    by_order (inr low) (inr high) = inl (low, high)
may_or_not slot.Last before byte small = by_order (cases_lt (length before) 7) (cases_lt value prime)
  where
    value : ℕ
    value = from_le_bytes w64 (drop (length before - 7) before ++ byte ∷ [])

    by_order : (length before < 7) ⊎ (7 ≤ length before) → (value < prime) ⊎ (prime ≤ value) → May slot.Last before byte ⊎ (¬ May slot.Last before byte)
    by_order (inl few) order = inl (small, λ seven. absurd (omega arith))
    by_order (inr seven) (inl below) = inl (small, λ seven. below)
    by_order (inr seven) (inr above) = inr (λ may. let below = may.1 seven in omega arith)
may_or_not (slot.Number least most at) before byte small = by_order (cases_lt most reached)
  where
    reached : ℕ
    reached = next_with least (number_size at) (from_le_bytes w32 (last_bytes at before ++ byte ∷ []))

    by_order : (most < reached) ⊎ (reached ≤ most) → May (slot.Number least most at) before byte ⊎ (¬ May (slot.Number least most at) before byte)
    by_order (inl above) = inr (λ may. let within = may.1 in omega arith)
    by_order (inr within) = inl (small, within)
may_or_not (slot.Behind at) before byte small = by_order (cases_lt 0 byte) (cases_lt code 1) (cases_lt 1 code)
  where
    code : ℕ
    code = get_or before (length before - at - 1) 0

    by_order : (0 < byte) ⊎ (byte ≤ 0) → (code < 1) ⊎ (1 ≤ code) → (1 < code) ⊎ (code ≤ 1) → May (slot.Behind at) before byte ⊎ (¬ May (slot.Behind at) before byte)
    by_order (inr none) low high = inl (small, λ one. omega arith)
    by_order (inl some) (inl low) high = inl (small, λ one. absurd (omega (arith, low, one)))
    by_order (inl some) (inr least) (inl high) = inl (small, λ one. absurd (omega (arith, high, one)))
    by_order (inl some) (inr least) (inr most) = inr (λ may. let none = may.1 (omega (arith, least, most)) in omega (arith, none, some))

-- up to any of the bytes they begin a frame, or one is bad
run : (place : Expect) (bytes : List ℕ) → All IsByte bytes → length bytes ≤ frame_length place bytes → (n : ℕ) → n ≤ length bytes
    → BeginsFrame place (take n bytes) ⊎ ((m : ℕ) × IsFirstBad place bytes m)
run place bytes all within zero most = inl (nothing_begins place)
run place bytes all within (suc n) most = on (run place bytes all within n (omega arith))
  where
    byte : ℕ
    byte = get_or bytes n 0

    before : List ℕ
    before = take n bytes

    more : take (suc n) bytes ≡ before ++ byte ∷ []
    more = ap (λ k. take k bytes) (let e : suc n ≡ n + 1 = omega arith in e) ∙ take_more bytes n 0 (omega arith)

    after : BeginsFrame place before → MayFollow place before byte ⊎ (¬ MayFollow place before byte) → BeginsFrame place (take (suc n) bytes) ⊎ ((m : ℕ) × IsFirstBad place bytes m)
    after begun (inl follows) =
        inl (subst (BeginsFrame place) (sym more) (begins_more place before byte begun
        (front_fits place (before ++ byte ∷ []) (drop (suc n) bytes)
        (subst (λ (l : List ℕ). length l ≤ frame_length place l) (sym (take-append-drop (suc n) bytes) ∙ ap (λ l. l ++ drop (suc n) bytes) more) within)) follows))
    after begun (inr stops) = inr (
      n,
      record {
        within = omega arith;
        before = begins_can place before begun;
        ends = λ can. ends_here place before byte stops (subst (CanGoOn place) (ap (λ k. take k bytes) (let e : n + 1 ≡ suc n = omega arith in e) ∙ more) can);
      },
    )

    on : BeginsFrame place before ⊎ ((m : ℕ) × IsFirstBad place bytes m) → BeginsFrame place (take (suc n) bytes) ⊎ ((m : ℕ) × IsFirstBad place bytes m)
    on (inl begun) = after begun
        (may_or_not (get_or (frame_slots place (told place (before ++ byte ∷ []))) (length before) free) before byte (All-get_or IsByte bytes n 0 (omega arith) all))
    on (inr bad) = inr bad

pub goes_on_or_is_bad : GoesOnOrIsBad
goes_on_or_is_bad place bytes all within = last (run place bytes all within (length bytes) (omega arith))
  where
    last : BeginsFrame place (take (length bytes) bytes) ⊎ ((m : ℕ) × IsFirstBad place bytes m) → CanGoOn place bytes ⊎ ((m : ℕ) × IsFirstBad place bytes m)
    last (inl begun) = inl (subst (CanGoOn place) (take_all (length bytes) bytes (omega arith)) (begins_can place (take (length bytes) bytes) begun))
    last (inr bad) = inr bad

pub never_both : NeverBoth
never_both place bytes n can bad = bad.ends (begins_can place (take (n + 1) bytes) (begins_fewer place bytes (n + 1) (can_begins place bytes can)))

pub whole_wants_nothing : WholeWantsNothing
whole_wants_nothing place bytes frame whole = omega (arith, whole_length place bytes frame whole)

pub nothing_wanted_is_whole : NothingWantedIsWhole
nothing_wanted_is_whole place bytes can none =
    let begun = can_begins place bytes can in
    let within = begun.within in
    word_whole place bytes (begins_word place bytes begun (omega arith))
