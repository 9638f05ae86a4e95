-- Bytes that come begin bytes that fields allow.
use Rattle.std.proofs.Common.{◌≡◌, ℕ, ◌+◌, ◌-◌, ◌*◌, ◌<◌, ◌≤◌, ◌⊎◌, inl, inr, List, [], ◌∷◌, ◌++◌, length, take, drop, get_or, replicate, refl, sym, ◌∙◌, ap, arith, length-append, append_assoc, subst, take-append-drop, length-drop}
use Rattle.std.specs.Prelude.{All}
use Rattle.std.specs.Int.{w32, w64, from_le_bytes, to_le_bytes}
use Rattle.std.specs.List.{AllByRecursion}
use Rattle.std.proofs.lemmas.Bool.{cases_lt}
use Rattle.std.proofs.lemmas.List.{length-take-le, length-replicate, get_or_append_left}
use Rattle.std.proofs.lemmas.List.Elements.{All-append, All-from_get_or, All-push, All-replicate}
use Rattle.proof_frames.specs.declared.row.Field.{Field}
use Rattle.proof_frames.specs.declared.row.Field.TheVariants as field
use Rattle.proof_frames.specs.declared.row.Slot.{Slot}
use Rattle.proof_frames.specs.declared.row.Slot.TheVariants as slot
use Rattle.proof_frames.specs.Rows.{May, FitsFields, FitsField, free, field_slots}
use Rattle.proof_frames.proofs.EveryRow.{IsSoundField}
use Rattle.proof_frames.proofs.Fields.{ComeAfter, slots, come_front, come_rest, fits_field, element_slot, within_range, reaches, decision_completes}
use Rattle.proof_frames.proofs.Octets.{IsByte, back_64, ends_in_zero}

-- part of an element, and zeros after it
element_completes : (before bytes : List ℕ) → ComeAfter (field_slots field.Element) before bytes → length bytes < 8 → (rest : List ℕ) × FitsField field.Element (bytes ++ rest)
element_completes before bytes come few =
    let zeros : List ℕ = replicate (7 - length bytes) 0 in
    let seven : List ℕ = bytes ++ zeros in
    let sized : length seven ≡ 7 = omega (arith, length-append bytes zeros, length-replicate {A = ℕ} (7 - length bytes) 0) in
    let all : All IsByte seven = All-append IsByte bytes zeros (All-from_get_or IsByte bytes 0 small) (All-replicate IsByte (7 - length bytes) 0 (omega arith)) in (
      zeros ++ 0 ∷ [],
      record {
        element = from_le_bytes w64 (seven ++ 0 ∷ []);
        is = ends_in_zero seven (omega (arith, sized)) all;
        spelled = sym (append_assoc bytes zeros (0 ∷ []))
            ∙ sym (back_64 (seven ++ 0 ∷ []) (omega (arith, sized, length-append seven (0 ∷ []))) (All-push IsByte seven 0 all (omega arith)));
      },
    )
  where
    small : (n : ℕ) → n < length bytes → get_or bytes n 0 < 256
    small n less = by_place (cases_lt n 7)
      where
        by_place : (n < 7) ⊎ (7 ≤ n) → get_or bytes n 0 < 256
        by_place (inl early) =
            let range = subst (λ (s : Slot). May s (before ++ take n bytes) (get_or bytes n 0)) (element_slot n early) (come n less) in
            let high : get_or bytes n 0 ≤ 255 = range.1 in
            omega arith
        by_place (inr late) = let last : 7 ≡ n = omega arith in subst (λ (m : ℕ). get_or bytes m 0 < 256) last (come 7 (omega arith)).0

-- part of a number of a range, and the rest of the least that begins so
number_completes : (least most : ℕ) (before bytes : List ℕ) → least ≤ most → ComeAfter (field_slots (field.Number least most)) before bytes → length bytes < 4
    → (rest : List ℕ) × FitsField (field.Number least most) (bytes ++ rest)
number_completes least most before [] sound come few = (to_le_bytes w32 least, record { number = least; at_least = omega arith; at_most = sound; spelled = refl })
number_completes least most before (first ∷ more) sound come few =
    let at = length more in
    let found = reaches least most at before (first ∷ more) (omega arith) (omega arith) come in
    let four : List ℕ = to_le_bytes w32 found.0 in (
      drop (at + 1) four,
      record { number = found.0; at_least = found.1; at_most = found.2; spelled = ap (λ l. l ++ drop (at + 1) four) found.3 ∙ take-append-drop (at + 1) four },
    )

-- part of a field
field_completes : (one : Field) (before bytes : List ℕ) → IsSoundField one → ComeAfter (field_slots one) before bytes → length bytes < length (field_slots one)
    → (rest : List ℕ) × FitsField one (bytes ++ rest)
field_completes (field.Bytes count size least most) before bytes sound come few =
    let missing = size * count - length bytes in
    let sized = length-replicate {A = ℕ} missing least in
    let most_bytes : length bytes ≤ size * count = omega (arith, few, length-replicate (size * count) (slot.Range least most)) in (
      replicate missing least,
      record {
        counted = omega (arith, most_bytes, sized, length-append bytes (replicate missing least));
        ranged = All-append (λ byte. (least ≤ byte) × (byte ≤ most)) bytes (replicate missing least) (within_range (size * count) least most before bytes come most_bytes)
            (All-replicate (λ byte. (least ≤ byte) × (byte ≤ most)) missing least (omega arith, sound));
      },
    )
field_completes field.Element before bytes sound come few = element_completes before bytes come few
field_completes (field.Number least most) before bytes sound come few = number_completes least most before bytes sound come few
field_completes field.Decision before bytes sound come few = decision_completes before bytes come few

-- part of fields
pub completes : (fields : List Field) (before bytes : List ℕ) → AllByRecursion IsSoundField fields → ComeAfter (slots fields) before bytes → length bytes ≤ length (slots fields)
    → (rest : List ℕ) × FitsFields fields (bytes ++ rest)
completes [] before [] sound come few = ([], refl)
completes [] before (byte ∷ bytes) sound come few = absurd (omega arith)
completes (one ∷ fields) before bytes sound come few =
    by_length (completes fields before [] sound.1 (λ n less. absurd (omega arith)) (omega arith))
    (λ late rest. completes fields late rest sound.1) (cases_lt (length bytes) many)
  where
    many : ℕ
    many = length (field_slots one)

    all : length (slots (one ∷ fields)) ≡ many + length (slots fields)
    all = length-append (field_slots one) (slots fields)

    by_length : ((rest : List ℕ) × FitsFields fields rest)
        → ((late rest : List ℕ) → ComeAfter (slots fields) late rest → length rest ≤ length (slots fields) → (more : List ℕ) × FitsFields fields (rest ++ more))
        → (length bytes < many) ⊎ (many ≤ length bytes) → (rest : List ℕ) × FitsFields (one ∷ fields) (bytes ++ rest)
    by_length there later (inl part) =
        let here = field_completes one before bytes sound.0 (λ n less. subst (λ (s : Slot). May s (before ++ take n bytes) (get_or bytes n 0))
        (get_or_append_left (field_slots one) (slots fields) free n (omega (arith, less, part))) (come n less)) part in
        (here.0 ++ there.0, (bytes ++ here.0, there.0, sym (append_assoc bytes here.0 there.0), here.1, there.1))
    by_length there later (inr whole) =
        let front : List ℕ = take many bytes in
        let behind : List ℕ = drop many bytes in
        let short : length front ≡ many = length-take-le many bytes whole in
        let apart : ComeAfter (slots (one ∷ fields)) before (front ++ behind) = subst (ComeAfter (slots (one ∷ fields)) before) (sym (take-append-drop many bytes)) come in
        let more = later (before ++ front) behind (come_rest (field_slots one) (slots fields) before front behind (sym short) apart)
        (omega (arith, few, all, length-drop many bytes)) in (
          more.0,
          (
            front,
            behind ++ more.0,
            ap (λ l. l ++ more.0) (sym (take-append-drop many bytes)) ∙ append_assoc front behind more.0,
            fits_field one before front (come_front (field_slots one) (slots fields) before front behind (sym short) apart) short,
            more.1,
          ),
        )
