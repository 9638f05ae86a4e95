-- The bytes that fields allow: field by field, and byte by byte.
use Rattle.std.proofs.Common.{◌≡◌, ℕ, zero, suc, ◌+◌, ◌-◌, ◌*◌, ◌/◌, ◌%◌, ◌<◌, ◌≤◌, ◌⊎◌, inl, inr, List, [], ◌∷◌, ◌++◌, map, flat_map, length, take, drop, get_or, replicate, refl, sym, ◌∙◌, ap, arith, length-append, append_assoc, append-nil, subst, take-append-drop, length-drop}
use Rattle.std.specs.Prelude.{All}
use Rattle.std.specs.Int.{w32, w64, from_le_bytes, to_le_bytes}
use Rattle.std.proofs.Math.Nat.{mul-le-mul_right}
use Rattle.std.proofs.Math.Seq.{take-append-add}
use Rattle.std.proofs.lemmas.Nat.{mod-mul-add}
use Rattle.std.proofs.lemmas.Bool.{cases_lt}
use Rattle.std.proofs.lemmas.Grind.{flat_map-append}
use Rattle.std.proofs.lemmas.List.{take_all, take_more, drop_at, length-take-le, length-replicate, get_or-replicate, get_or_append_left, get_or-append_right, get_or-append-add, get_or_past, take-append-le}
use Rattle.std.proofs.lemmas.List.Elements.{All-from_get_or, All-nil, All-cons}
use Rattle.zk_model.specs.Field.{IsElement}
use Rattle.zk_model.specs.Bytes.{element_bytes}
use Rattle.zk_model.proofs.Octets.{word_octets}
use Rattle.proof_frames.specs.declared.row.Field.{Field}
use Rattle.proof_frames.specs.declared.row.Field.TheVariants as field
use Rattle.proof_frames.specs.declared.row.Payload.{Payload}
use Rattle.proof_frames.specs.declared.row.Payload.TheVariants as payload
use Rattle.proof_frames.specs.declared.row.Slot.{Slot}
use Rattle.proof_frames.specs.declared.row.Slot.TheVariants as slot
use Rattle.proof_frames.specs.Rows.{IsFree, May, FitsFields, FitsField, AreWithin, SpellElement, SpellNumber, SpellDecision, last_bytes, next_with, number_size, free, width, repeat, exactly, field_slots, payload_fields, payload_length}
use Rattle.proof_frames.proofs.Numbers.{next_most, next_low, low_bytes, low_front, below_size, padded_at}
use Rattle.proof_frames.proofs.Octets.{IsByte, back_32, back_64, below_32, half_octets, says_element}

-- ---- bytes that may come one after another

-- what may come at a place, the bytes before it, and the byte
abbrev pub Coming : Type 0
Coming = Slot × (List ℕ × ℕ)

abbrev pub IsFine : Coming → Type 0
IsFine coming = May coming.0 coming.1.0 coming.1.1

-- the byte at n, where others stand before all
abbrev pub coming : List Slot → List ℕ → List ℕ → ℕ → Coming
coming slots before bytes n = (get_or slots n free, (before ++ take n bytes, get_or bytes n 0))

-- each byte may come after others and those before it
abbrev pub ComeAfter : List Slot → List ℕ → List ℕ → Type 0
ComeAfter slots before bytes = (n : ℕ) → n < length bytes → IsFine (coming slots before bytes n)

-- in front, and after it
in_front : (one more : List Slot) (before front rest : List ℕ) (n : ℕ) → length one ≡ length front → n < length front
    → coming (one ++ more) before (front ++ rest) n ≡ coming one before front n
in_front one more before front rest n sized less = λ i. (
  get_or_append_left one more free n (let k : n < length one = omega arith in k) i,
  (before ++ take-append-le n front rest (let k : n ≤ length front = omega arith in k) i, get_or_append_left front rest 0 n less i),
)

after_it : (one more : List Slot) (before front rest : List ℕ) (k : ℕ) → length one ≡ length front
    → coming (one ++ more) before (front ++ rest) (length front + k) ≡ coming more (before ++ front) rest k
after_it one more before front rest k sized = λ i. (
  (ap (λ n. get_or (one ++ more) (n + k) free) (sym sized) ∙ get_or-append-add one more k free) i,
  ((ap (λ l. before ++ l) (take-append-add front rest k) ∙ sym (append_assoc before front (take k rest))) i, get_or-append-add front rest k 0 i),
)

pub come_on : (one more : List Slot) (before front rest : List ℕ) → length one ≡ length front → ComeAfter one before front → ComeAfter more (before ++ front) rest
    → ComeAfter (one ++ more) before (front ++ rest)
come_on one more before front rest sized here there = λ n less. by_place n less (cases_lt n (length front))
  where
    by_place : (n : ℕ) → n < length (front ++ rest) → (n < length front) ⊎ (length front ≤ n) → IsFine (coming (one ++ more) before (front ++ rest) n)
    by_place n less (inl early) = subst IsFine (sym (in_front one more before front rest n sized early)) (here n early)
    by_place n less (inr late) =
        let k = n - length front in
        let at : length front + k ≡ n = omega arith in
        subst (λ (m : ℕ). IsFine (coming (one ++ more) before (front ++ rest) m)) at
        (subst IsFine (sym (after_it one more before front rest k sized)) (there k (omega (arith, length-append front rest))))

pub come_front : (one more : List Slot) (before front rest : List ℕ) → length one ≡ length front → ComeAfter (one ++ more) before (front ++ rest) → ComeAfter one before front
come_front one more before front rest sized all = λ n less.
    subst IsFine (in_front one more before front rest n sized less) (all n (omega (arith, length-append front rest)))

pub come_rest : (one more : List Slot) (before front rest : List ℕ) → length one ≡ length front → ComeAfter (one ++ more) before (front ++ rest)
    → ComeAfter more (before ++ front) rest
come_rest one more before front rest sized all = λ k less.
    subst IsFine (after_it one more before front rest k sized) (all (length front + k) (omega (arith, length-append front rest)))

-- ---- one field

-- the last of more bytes
pub last_of : (count : ℕ) (before last : List ℕ) → length last ≡ count → last_bytes count (before ++ last) ≡ last
last_of count before last sized = drop_at before last (length (before ++ last) - count) (omega (arith, length-append before last))

-- the last seven
pub last_seven : (before seven : List ℕ) → length seven ≡ 7 → drop (length (before ++ seven) - 7) (before ++ seven) ≡ seven
last_seven before seven sized = last_of 7 before seven sized

-- before the last byte of an element anything may come
pub element_slot : (n : ℕ) → n < 7 → get_or (field_slots field.Element) n free ≡ free
element_slot n less = get_or_append_left (replicate 7 free) (slot.Last ∷ []) free n less ∙ get_or-replicate 7 n free free less

pub element_comes : (before bytes : List ℕ) → SpellElement bytes → ComeAfter (field_slots field.Element) before bytes
element_comes before bytes spells = subst (ComeAfter (field_slots field.Element) before) (sym spells.spelled) (λ n less. by_place n (cases_lt n 7) less)
  where
    eight : List ℕ
    eight = element_bytes spells.element

    by_place : (n : ℕ) → (n < 7) ⊎ (7 ≤ n) → n < 8 → IsFine (coming (field_slots field.Element) before eight n)
    by_place n (inl early) less =
        let byte : get_or eight n 0 < 256 = word_octets spells.element n 0 less in
        subst (λ (s : Slot). May s (before ++ take n eight) (get_or eight n 0)) (sym (element_slot n early)) (omega arith, omega arith)
    by_place n (inr late) less =
        let at : 7 ≡ n = omega arith in
        subst (λ (m : ℕ). IsFine (coming (field_slots field.Element) before eight m)) at (
          word_octets spells.element 7 0 (omega arith),
          λ seven. subst (λ (l : List ℕ). IsElement (from_le_bytes w64 (l ++ get_or eight 7 0 ∷ []))) (sym (last_seven before (take 7 eight) refl))
              (says_element eight spells.element spells.is refl),
        )

pub spells_element : (before bytes : List ℕ) → ComeAfter (field_slots field.Element) before bytes → length bytes ≡ 8 → SpellElement bytes
spells_element before bytes come sized =
    let last = come 7 (omega arith) in
    let seven : List ℕ = take 7 bytes in
    let whole : seven ++ get_or bytes 7 0 ∷ [] ≡ bytes = sym (take_more bytes 7 0 (omega arith)) ∙ take_all 8 bytes (omega arith) in
    let before_it : drop (length (before ++ seven) - 7) (before ++ seven) ≡ seven = last_seven before seven (length-take-le 7 bytes (omega arith)) in
    record {
      element = from_le_bytes w64 bytes;
      is = subst (λ (l : List ℕ). IsElement (from_le_bytes w64 l)) (ap (λ l. l ++ get_or bytes 7 0 ∷ []) before_it ∙ whole)
          (last.1 (omega (arith, length-append before seven, length-take-le 7 bytes (omega arith))));
      spelled = sym (back_64 bytes sized (All-from_get_or IsByte bytes 0 (λ n less. by_place n less (cases_lt n 7))));
    }
  where
    by_place : (n : ℕ) → n < length bytes → (n < 7) ⊎ (7 ≤ n) → get_or bytes n 0 < 256
    by_place n less (inl early) =
        let range = subst (λ (s : Slot). May s (before ++ take n bytes) (get_or bytes n 0)) (element_slot n early) (come n less) in
        let high : get_or bytes n 0 ≤ 255 = range.1 in
        omega arith
    by_place n less (inr late) =
        let at : 7 ≡ n = omega arith in
        subst (λ (m : ℕ). get_or bytes m 0 < 256) at (come 7 (omega arith)).0

-- at the bytes of a number
number_slot : (least most n : ℕ) → n < 4 → get_or (field_slots (field.Number least most)) n free ≡ slot.Number least most n
number_slot least most zero less = refl
number_slot least most (suc zero) less = refl
number_slot least most (suc (suc zero)) less = refl
number_slot least most (suc (suc (suc zero))) less = refl
number_slot least most (suc (suc (suc (suc n)))) less = absurd (omega arith)

-- bytes up to one of it
up_to : (n : ℕ) (before bytes : List ℕ) → n < length bytes → last_bytes n (before ++ take n bytes) ++ get_or bytes n 0 ∷ [] ≡ take (n + 1) bytes
up_to n before bytes less =
    ap (λ l. l ++ get_or bytes n 0 ∷ []) (last_of n before (take n bytes) (length-take-le n bytes (omega arith))) ∙ sym (take_more bytes n 0 less)

number_comes : (least most : ℕ) (before bytes : List ℕ) → SpellNumber least most bytes → ComeAfter (field_slots (field.Number least most)) before bytes
number_comes least most before bytes spells = subst (ComeAfter (field_slots (field.Number least most)) before) (sym spells.spelled) (λ n less.
    subst (λ (s : Slot). May s (before ++ take n four) (get_or four n 0)) (sym (number_slot least most n less)) (
      half_octets spells.number n 0 less,
      let reached = next_most n least spells.number spells.at_least in
          let high = spells.at_most in
          let low = ap (from_le_bytes w32) (up_to n before four less) ∙ low_bytes n spells.number less in
          omega (arith, reached, high, ap (next_with least (number_size n)) low),
    ))
  where
    four : List ℕ
    four = to_le_bytes w32 spells.number

-- what comes up to a byte of it are the low bytes of a number of the range
pub reaches : (least most at : ℕ) (before bytes : List ℕ) → at < 4 → length bytes ≡ at + 1 → ComeAfter (field_slots (field.Number least most)) before bytes
    → (n : ℕ) × (least ≤ n) × (n ≤ most) × (bytes ≡ take (at + 1) (to_le_bytes w32 n))
reaches least most at before bytes less sized come =
    let all : take (at + 1) bytes ≡ bytes = take_all (at + 1) bytes (omega arith) in
    let octets : All IsByte bytes = All-from_get_or IsByte bytes 0 (λ k within. (may k within).0) in
    let low : from_le_bytes w32 (last_bytes at (before ++ take at bytes) ++ get_or bytes at 0 ∷ []) ≡ from_le_bytes w32 bytes =
    ap (from_le_bytes w32) (up_to at before bytes (omega arith) ∙ all) in
    let n = next_with least (number_size at) (from_le_bytes w32 bytes) in (
      n,
      omega arith,
      subst (λ (k : ℕ). next_with least (number_size at) k ≤ most) low (may at (omega arith)).1,
      low_front at n bytes less sized octets (next_low at least (from_le_bytes w32 bytes) (below_size at bytes sized octets)),
    )
  where
    may : (k : ℕ) → k < length bytes → May (slot.Number least most k) (before ++ take k bytes) (get_or bytes k 0)
    may k within = subst (λ (s : Slot). May s (before ++ take k bytes) (get_or bytes k 0)) (number_slot least most k (omega arith)) (come k within)

spells_number : (least most : ℕ) (before bytes : List ℕ) → ComeAfter (field_slots (field.Number least most)) before bytes → length bytes ≡ 4 → SpellNumber least most bytes
spells_number least most before bytes come sized =
    let reached = reaches least most 3 before bytes (omega arith) sized come in
    record { number = reached.0; at_least = reached.1; at_most = reached.2; spelled = reached.3 }

-- at the bytes of a decision's number
decision_slot : (n : ℕ) → n < 4 → get_or (field_slots field.Decision) (suc n) free ≡ slot.Behind n
decision_slot zero less = refl
decision_slot (suc zero) less = refl
decision_slot (suc (suc zero)) less = refl
decision_slot (suc (suc (suc zero))) less = refl
decision_slot (suc (suc (suc (suc n)))) less = absurd (omega arith)

-- the byte so many and one before is its first
first_taken : (bytes : List ℕ) (n : ℕ) → n < length bytes → get_or (take (suc n) bytes) 0 0 ≡ get_or bytes 0 0
first_taken [] n less = absurd (omega arith)
first_taken (byte ∷ bytes) n less = refl

first_before : (n : ℕ) (before bytes : List ℕ) → suc n ≤ length bytes
    → get_or (before ++ take (suc n) bytes) (length (before ++ take (suc n) bytes) - n - 1) 0 ≡ get_or bytes 0 0
first_before n before bytes less =
    let at : length (before ++ take (suc n) bytes) - n - 1 ≡ length before + 0 =
    omega (arith, length-append before (take (suc n) bytes), length-take-le (suc n) bytes less) in
    ap (λ k. get_or (before ++ take (suc n) bytes) k 0) at ∙ get_or-append-add before (take (suc n) bytes) 0 0 ∙ first_taken bytes n (omega arith)

zero_bytes : (number n : ℕ) → number ≡ 0 → n < 4 → get_or (to_le_bytes w32 number) n 0 ≡ 0
zero_bytes number zero is less = omega (arith, is)
zero_bytes number (suc zero) is less = omega (arith, is)
zero_bytes number (suc (suc zero)) is less = omega (arith, is)
zero_bytes number (suc (suc (suc zero))) is less = omega (arith, is)
zero_bytes number (suc (suc (suc (suc n)))) is less = absurd (omega arith)

decision_comes : (before bytes : List ℕ) → SpellDecision bytes → ComeAfter (field_slots field.Decision) before bytes
decision_comes before bytes spells = subst (ComeAfter (field_slots field.Decision) before) (sym spells.spelled) by_place
  where
    five : List ℕ
    five = spells.code ∷ to_le_bytes w32 spells.number

    by_place : (n : ℕ) → n < 5 → IsFine (coming (field_slots field.Decision) before five n)
    by_place zero less = (omega arith, spells.fits.said)
    by_place (suc n) less =
        subst (λ (s : Slot). May s (before ++ take (suc n) five) (get_or five (suc n) 0)) (sym (decision_slot n (omega arith))) (
          half_octets spells.number n 0 (omega arith),
          λ one. zero_bytes spells.number n (spells.fits.zero (sym (first_before n before five (omega arith)) ∙ one)) (omega arith),
        )

-- five bytes that come spell one
pub spells_decision : (before bytes : List ℕ) → ComeAfter (field_slots field.Decision) before bytes → length bytes ≡ 5 → SpellDecision bytes
spells_decision before [] come sized = absurd (omega (arith, sized))
spells_decision before (code ∷ four) come sized = record {
  code = code;
  number = from_le_bytes w32 four;
  fits = record {
    said = (come 0 (omega arith)).1;
    numbered = below_32 four octets;
    zero = λ one. omega (arith, (at 0 (omega arith)).1 one, (at 1 (omega arith)).1 one, (at 2 (omega arith)).1 one, (at 3 (omega arith)).1 one);
  };
  spelled = ap (λ l. code ∷ l) (sym (back_32 four (omega (arith, sized)) octets));
}
  where
    at : (n : ℕ) → n < 4 → (get_or four n 0 < 256) × (code ≡ 1 → get_or four n 0 ≡ 0)
    at n less =
        let may = subst (λ (s : Slot). May s (before ++ take (suc n) (code ∷ four)) (get_or four n 0)) (decision_slot n less) (come (suc n) (omega (arith, sized))) in
        (may.0, λ one. may.1 (first_before n before (code ∷ four) (omega (arith, sized)) ∙ one))

    octets : All IsByte four
    octets = All-from_get_or IsByte four 0 (λ n less. (at n (omega (arith, sized))).0)

-- with zeros behind they come
zeros_come : (before bytes : List ℕ) (many : ℕ) → length bytes + many ≡ 5 → ComeAfter (field_slots field.Decision) before bytes
    → ComeAfter (field_slots field.Decision) before (bytes ++ replicate many 0)
zeros_come before bytes many sized come = λ n less. by_place n (omega (arith, less, length-append bytes (replicate many 0), length-replicate {A = ℕ} many 0)) (cases_lt n (length bytes))
  where
    zero_there : (n : ℕ) → length bytes ≤ n → get_or (bytes ++ replicate many 0) n 0 ≡ 0
    zero_there n late = padded_at bytes many n ∙ get_or_past bytes n 0 late

    by_place : (n : ℕ) → n < 5 → (n < length bytes) ⊎ (length bytes ≤ n) → IsFine (coming (field_slots field.Decision) before (bytes ++ replicate many 0) n)
    by_place n less (inl early) =
        subst (λ (q : List ℕ × ℕ). May (get_or (field_slots field.Decision) n free) (before ++ q.0) q.1)
        (λ i. (sym (take-append-le n bytes (replicate many 0) (let k : n ≤ length bytes = omega arith in k)) i, sym (get_or_append_left bytes (replicate many 0) 0 n early) i)) (come n early)
    by_place zero less (inr late) =
        let none = zero_there zero late in (omega arith, omega (arith, none))
    by_place (suc n) less (inr late) =
        let none = zero_there (suc n) late in
        subst (λ (s : Slot). May s (before ++ take (suc n) (bytes ++ replicate many 0)) (get_or (bytes ++ replicate many 0) (suc n) 0)) (sym (decision_slot n (omega arith)))
        (omega (arith, none), λ one. none)

-- part of a decision, and zeros after it
pub decision_completes : (before bytes : List ℕ) → ComeAfter (field_slots field.Decision) before bytes → length bytes < 5
    → (rest : List ℕ) × SpellDecision (bytes ++ rest)
decision_completes before bytes come few =
    let many = 5 - length bytes in
    let zeros : List ℕ = replicate many 0 in (
      zeros,
      spells_decision before (bytes ++ zeros) (zeros_come before bytes many (omega arith) come) (omega (arith, length-append bytes zeros, length-replicate {A = ℕ} many 0)),
    )

bytes_come : (count least most : ℕ) (before bytes : List ℕ) → AreWithin count least most bytes → ComeAfter (replicate count (slot.Range least most)) before bytes
bytes_come count least most before bytes are = λ n less.
    subst (λ (s : Slot). May s (before ++ take n bytes) (get_or bytes n 0))
    (sym (get_or-replicate count n (slot.Range least most) free (let counted = are.counted in omega arith))) (are.ranged n 0 less)

pub within_range : (count least most : ℕ) (before bytes : List ℕ) → ComeAfter (replicate count (slot.Range least most)) before bytes → length bytes ≤ count
    → All (λ byte. (least ≤ byte) × (byte ≤ most)) bytes
within_range count least most before bytes come few = All-from_get_or (λ byte. (least ≤ byte) × (byte ≤ most)) bytes 0 (λ n less.
    subst (λ (s : Slot). May s (before ++ take n bytes) (get_or bytes n 0)) (get_or-replicate count n (slot.Range least most) free (omega arith)) (come n less))

pub field_comes : (one : Field) (before bytes : List ℕ) → FitsField one bytes → ComeAfter (field_slots one) before bytes
field_comes (field.Bytes count size least most) before bytes fits = bytes_come (size * count) least most before bytes fits
field_comes field.Element before bytes fits = element_comes before bytes fits
field_comes (field.Number least most) before bytes fits = number_comes least most before bytes fits
field_comes field.Decision before bytes fits = decision_comes before bytes fits

pub fits_field : (one : Field) (before bytes : List ℕ) → ComeAfter (field_slots one) before bytes → length bytes ≡ length (field_slots one) → FitsField one bytes
fits_field (field.Bytes count size least most) before bytes come sized =
    let counted = sized ∙ length-replicate (size * count) (slot.Range least most) in
    record { counted = counted; ranged = within_range (size * count) least most before bytes come (omega (arith, counted)) }
fits_field field.Element before bytes come sized = spells_element before bytes come sized
fits_field (field.Number least most) before bytes come sized = spells_number least most before bytes come sized
fits_field field.Decision before bytes come sized = spells_decision before bytes come sized

field_length : (one : Field) → length (field_slots one) ≡ width one
field_length (field.Bytes count size least most) = length-replicate (size * count) (slot.Range least most)
field_length field.Element = refl
field_length (field.Number least most) = refl
field_length field.Decision = refl

field_sized : (one : Field) (bytes : List ℕ) → FitsField one bytes → length bytes ≡ length (field_slots one)
field_sized (field.Bytes count size least most) bytes fits = fits.counted ∙ sym (length-replicate (size * count) (slot.Range least most))
field_sized field.Element bytes fits = ap length fits.spelled
field_sized (field.Number least most) bytes fits = ap length fits.spelled
field_sized field.Decision bytes fits = ap length fits.spelled

-- ---- fields after one another

-- what may come at each byte of fields
abbrev pub slots : List Field → List Slot
slots fields = flat_map field_slots fields

pub fits_length : (fields : List Field) (bytes : List ℕ) → FitsFields fields bytes → length bytes ≡ length (slots fields)
fits_length [] bytes fits = ap length fits
fits_length (one ∷ fields) bytes fits =
    omega (
      arith,
      ap length fits.2,
      length-append fits.0 fits.1,
      field_sized one fits.0 fits.3,
      fits_length fields fits.1 fits.4,
      length-append (field_slots one) (slots fields),
    )

pub fits_come : (fields : List Field) (before bytes : List ℕ) → FitsFields fields bytes → ComeAfter (slots fields) before bytes
fits_come [] before bytes fits = λ n less. absurd (omega (arith, ap length fits))
fits_come (one ∷ fields) before bytes fits =
    subst (ComeAfter (slots (one ∷ fields)) before) (sym fits.2)
    (come_on (field_slots one) (slots fields) before fits.0 fits.1 (sym (field_sized one fits.0 fits.3)) (field_comes one before fits.0 fits.3)
    (fits_come fields (before ++ fits.0) fits.1 fits.4))

pub come_fits : (fields : List Field) (before bytes : List ℕ) → ComeAfter (slots fields) before bytes → length bytes ≡ length (slots fields) → FitsFields fields bytes
come_fits [] before [] come sized = refl
come_fits [] before (byte ∷ bytes) come sized = absurd (omega arith)
come_fits (one ∷ fields) before bytes come sized =
    let many = length (field_slots one) in
    let all : length bytes ≡ many + length (slots fields) = sized ∙ length-append (field_slots one) (slots fields) in
    let front : List ℕ = take many bytes in
    let rest : List ℕ = drop many bytes in
    let short : length front ≡ many = length-take-le many bytes (omega arith) in
    let apart : ComeAfter (slots (one ∷ fields)) before (front ++ rest) = subst (ComeAfter (slots (one ∷ fields)) before) (sym (take-append-drop many bytes)) come in (
      front,
      rest,
      sym (take-append-drop many bytes),
      fits_field one before front (come_front (field_slots one) (slots fields) before front rest (sym short) apart) short,
      come_fits fields (before ++ front) rest (come_rest (field_slots one) (slots fields) before front rest (sym short) apart) (omega (arith, length-drop many bytes)),
    )

pub fits_append : (one more : List Field) (front rest : List ℕ) → FitsFields one front → FitsFields more rest → FitsFields (one ++ more) (front ++ rest)
fits_append [] more front rest fits fit = subst (λ (l : List ℕ). FitsFields more (l ++ rest)) (sym fits) fit
fits_append (first ∷ one) more front rest fits fit =
    (fits.0, fits.1 ++ rest, ap (λ l. l ++ rest) fits.2 ∙ append_assoc fits.0 fits.1 rest, fits.3, fits_append one more fits.1 rest fits.4 fit)

pub fits_split : (one more : List Field) (bytes : List ℕ) → FitsFields (one ++ more) bytes
    → (front : List ℕ) × (rest : List ℕ) × (bytes ≡ front ++ rest) × FitsFields one front × FitsFields more rest
fits_split [] more bytes fits = ([], bytes, refl, refl, fits)
fits_split (first ∷ one) more bytes fits =
    let apart = fits_split one more fits.1 fits.4 in (
      fits.0 ++ apart.0,
      apart.1,
      fits.2 ∙ ap (λ l. fits.0 ++ l) apart.2 ∙ sym (append_assoc fits.0 apart.0 apart.1),
      (fits.0, apart.0, refl, fits.3, apart.3),
      apart.4,
    )

-- bytes that are fixed
pub exact_fits : (bytes : List ℕ) → FitsFields (map exactly bytes) bytes
exact_fits [] = refl
exact_fits (byte ∷ bytes) = (
  byte ∷ [],
  bytes,
  refl,
  record { counted = refl; ranged = All-cons (λ b. (byte ≤ b) × (b ≤ byte)) byte [] (omega arith, omega arith) (All-nil (λ b. (byte ≤ b) × (b ≤ byte))) },
  exact_fits bytes,
)

-- a list of one item
pub one_item : (l : List ℕ) → length l ≡ 1 → l ≡ get_or l 0 0 ∷ []
one_item [] sized = absurd (omega arith)
one_item (x ∷ []) sized = refl
one_item (x ∷ y ∷ l) sized = absurd (omega arith)

pub fits_exact : (fixed bytes : List ℕ) → FitsFields (map exactly fixed) bytes → bytes ≡ fixed
fits_exact [] bytes fits = fits
fits_exact (byte ∷ fixed) bytes fits =
    let counted : length fits.0 ≡ 1 = fits.3.counted in
    let range = fits.3.ranged 0 0 (omega arith) in
    let low : byte ≤ get_or fits.0 0 0 = range.0 in
    let high : get_or fits.0 0 0 ≤ byte = range.1 in
    let same : get_or fits.0 0 0 ≡ byte = omega arith in
    fits.2 ∙ (λ i. (one_item fits.0 counted ∙ ap (λ b. b ∷ []) same) i ++ fits_exact fixed fits.1 fits.4 i)

-- ---- fields so many times

-- how many bytes they are
repeat_length : (fields : List Field) (count : ℕ) → length (slots (repeat count fields)) ≡ count * length (slots fields)
repeat_length fields zero = let e : 0 ≡ 0 * length (slots fields) = omega arith in e
repeat_length fields (suc count) =
    omega (arith, ap length (flat_map-append field_slots fields (repeat count fields)), length-append (slots fields) (slots (repeat count fields)), repeat_length fields count)

-- what may come at a byte of one of them
pub repeat_slot : (fields : List Field) (count k j : ℕ) → k < count → j < length (slots fields)
    → get_or (slots (repeat count fields)) (k * length (slots fields) + j) free ≡ get_or (slots fields) j free
repeat_slot fields zero k j less within = absurd (omega arith)
repeat_slot fields (suc count) zero j less within =
    ap (λ n. get_or (slots (repeat (suc count) fields)) n free) (let e : 0 * length (slots fields) + j ≡ j = omega arith in e)
    ∙ ap (λ l. get_or l j free) (flat_map-append field_slots fields (repeat count fields)) ∙ get_or_append_left (slots fields) (slots (repeat count fields)) free j within
repeat_slot fields (suc count) (suc k) j less within =
    let many = length (slots fields) in
    let at : suc k * many + j ≡ many + (k * many + j) = omega arith in
    (λ i. get_or (flat_map-append field_slots fields (repeat count fields) i) (at i) free)
    ∙ get_or-append-add (slots fields) (slots (repeat count fields)) (k * many + j) free ∙ repeat_slot fields count k j (omega arith) within

-- two fields
pub pair_length : (first second : Field) → length (slots (first ∷ second ∷ [])) ≡ width first + width second
pair_length first second =
    omega (arith, length-append (field_slots first) (field_slots second ++ []), ap length (append-nil (field_slots second)), field_length first, field_length second)

pub payload_sized : (p : Payload) → length (slots (payload_fields p)) ≡ payload_length p
payload_sized (payload.Elements count) = omega (arith, repeat_length (field.Element ∷ []) count)
payload_sized (payload.Fields times first second) =
    repeat_length (first ∷ second ∷ []) times ∙ ap (λ n. times * n) (pair_length first second)
payload_sized (payload.Three first second third) =
    omega (arith, length-append (field_slots first) (slots (second ∷ third ∷ [])), field_length first, pair_length second third)

-- ---- what may come at a byte of a payload

-- fewer than so many times a size are in fewer than so many
fewer_times : (k count size r : ℕ) → size * k + r < count * size → k < count
fewer_times k count size r less = by_order (cases_lt k count)
  where
    by_order : (k < count) ⊎ (count ≤ k) → k < count
    by_order (inl is) = is
    by_order (inr not) = absurd (omega (arith, mul-le-mul_right size not))

slot_of_unit : (fields : List Field) (count at size : ℕ) → length (slots fields) ≡ size → at < count * size
    → get_or (slots (repeat count fields)) at free ≡ get_or (slots fields) (at % size) free
slot_of_unit fields count at size sized less = by_size (cases_lt 0 size)
  where
    by_size : (0 < size) ⊎ (size ≤ 0) → get_or (slots (repeat count fields)) at free ≡ get_or (slots fields) (at % size) free
    by_size (inr none) = let e : size ≡ 0 = omega arith in absurd (omega (arith, ap (λ n. count * n) e))
    by_size (inl some) =
        let k = at / size in
        let j = at % size in
        let parts : size * k + j ≡ at = omega arith in
        let few : k < count = fewer_times k count size j (omega arith) in
        let at_is : at ≡ k * length (slots fields) + j = omega (arith, ap (λ n. k * n) sized) in
        ap (λ n. get_or (slots (repeat count fields)) n free) at_is ∙ repeat_slot fields count k j few (omega arith)

pub slot_of_element : (p : Payload) (count at : ℕ) → p ≡ payload.Elements count → at < payload_length p
    → get_or (field_slots field.Element) (at % 8) free ≡ get_or (slots (payload_fields p)) at free
slot_of_element p count at is less =
    sym (ap (λ q. get_or (slots (payload_fields q)) at free) is
    ∙ slot_of_unit (field.Element ∷ []) count at 8 refl (let short : at < 8 * count = rw is at less in omega arith))

-- of the first field, and of those behind it
pub slot_in_front : (one : Field) (fields : List Field) (at : ℕ) → at < width one → get_or (field_slots one) at free ≡ get_or (slots (one ∷ fields)) at free
slot_in_front one fields at here = sym (get_or_append_left (field_slots one) (slots fields) free at (omega (arith, here, field_length one)))

pub slot_behind : (one : Field) (fields : List Field) (at wide : ℕ) → wide ≡ width one → wide ≤ at → get_or (slots fields) (at - wide) free ≡ get_or (slots (one ∷ fields)) at free
slot_behind one fields at wide is_wide past = sym (get_or-append_right (field_slots one) (slots fields) wide at free (field_length one ∙ sym is_wide) past)

-- of two fields, of which the sizes are known
module _ (p : Payload) (times at wide more : ℕ) (first second : Field) (is : p ≡ payload.Fields times first second)
    (is_wide : wide ≡ width first) (is_more : more ≡ width second) (less : at < payload_length p) where
  slot_of_two : get_or (slots (payload_fields p)) at free ≡ get_or (slots (first ∷ second ∷ [])) (at % (wide + more)) free
  slot_of_two =
      ap (λ q. get_or (slots (payload_fields q)) at free) is
      ∙ slot_of_unit (first ∷ second ∷ []) times at (width first + width second) (pair_length first second) (rw is at less)
      ∙ (λ i. get_or (slots (first ∷ second ∷ [])) (at % (sym is_wide i + sym is_more i)) free)

  pub slot_of_first : at % (wide + more) < wide → get_or (field_slots first) (at % (wide + more)) free ≡ get_or (slots (payload_fields p)) at free
  slot_of_first here = slot_in_front first (second ∷ []) (at % (wide + more)) (omega (arith, here, is_wide)) ∙ sym slot_of_two

  pub slot_of_second : wide ≤ at % (wide + more) → get_or (field_slots second) (at % (wide + more) - wide) free ≡ get_or (slots (payload_fields p)) at free
  slot_of_second past =
      ap (λ l. get_or l (at % (wide + more) - wide) free) (sym (append-nil (field_slots second)))
      ∙ slot_behind first (second ∷ []) (at % (wide + more)) wide is_wide past ∙ sym slot_of_two

-- where there is a byte each of the fields is short
pub one_of_many : (times each at most : ℕ) → at < times * each → times * each ≤ most → each ≤ most
one_of_many zero each at most less short = absurd (omega arith)
one_of_many (suc times) each at most less short = omega arith

-- bytes of a field that may be any, from one on
pub free_bytes : (p : Payload) (times at wide more : ℕ) (first second : Field) → p ≡ payload.Fields times first second → wide ≡ width first → more ≡ width second
    → at < payload_length p → IsFree first → at % (wide + more) < wide → (j : ℕ) → j < wide - at % (wide + more) → get_or (slots (payload_fields p)) (at + j) free ≡ free
free_bytes p times at wide more first second is is_wide is_more less is_free here j near =
    let unit = wide + more in
    let k = at / unit in
    let r = at % unit in
    let parts : unit * k + r ≡ at = omega arith in
    let inside : at < times * unit = rw (is_wide, is_more) (rw is at less) in
    let less_k = fewer_times k times unit r (omega arith) in
    let few : k + 1 ≤ times = omega arith in
    let whole : (k + 1) * unit ≤ times * unit = mul-le-mul_right unit few in
    let within : at + j < times * unit = omega (arith, whole, parts, near, here) in
    let within_p : at + j < payload_length p = rw is (rw (sym is_wide, sym is_more) within) in
    let at_is : (at + j) % unit ≡ r + j = ap (λ n. n % unit) (let e : at + j ≡ k * unit + (r + j) = omega (arith, parts) in e) ∙ mod-mul-add k unit (r + j) (omega arith) in
    sym (slot_of_first p times (at + j) wide more first second is is_wide is_more within_p (omega (arith, at_is, near, here)))
    ∙ ap (λ n. get_or (field_slots first) n free) at_is ∙ any_slot first (r + j) is_free (omega (arith, near, here, is_wide))
  where
    any_slot : (one : Field) (n : ℕ) → IsFree one → n < width one → get_or (field_slots one) n free ≡ free
    any_slot (field.Bytes count size least most) n is_free less =
        get_or-replicate (size * count) n (slot.Range least most) free less ∙ (λ i. slot.Range (is_free.0 i) (is_free.1 i))
    any_slot field.Element n is_free less = absurd is_free
    any_slot (field.Number least most) n is_free less = absurd is_free
    any_slot field.Decision n is_free less = absurd is_free
