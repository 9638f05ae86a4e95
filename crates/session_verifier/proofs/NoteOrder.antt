-- Lines in byte order.
use Rattle.std.proofs.Common.{◌≡◌, ◌++◌, ◌+◌, ◌<◌, ℕ, List, [], ◌∷◌, Bool, map, codes, length, String, string_bytes, slice_index_or, if◌then◌else◌, ap, ◌∙◌, subst, arith}
use Rattle.std.specs.Cmp.Lexicographic.{slice_cmp}
use Rattle.std.specs.List.{concat}
use Rattle.std.specs.List.Sorted.{IsPermutation, IsSorted}
use Rattle.std.specs.Ordering.{is_lt, nat_cmp}
use Rattle.std.specs.String.{string_cmp}
use Rattle.std.proofs.lemmas.List.{get_or-map, length-map}
use Rattle.std.proofs.lemmas.List.Sorted.{IsPermutation-map}
use Rattle.session_verifier.specs.declared.note.SessionNote.{SessionNote}
use Rattle.session_verifier.specs.NoteLines.{IsServedText, refusal_lines, unit_lines}

-- the bytes of texts in order are in order
bytes_sorted : {Z : Type 0} (lines : List (String Z)) → IsSorted string_cmp lines → IsSorted (slice_cmp nat_cmp) (map string_bytes lines)
bytes_sorted [] sorted k d from to = absurd (omega (arith, to))
bytes_sorted (line ∷ more) sorted k d from to =
    ap (λ bytes. is_lt (slice_cmp nat_cmp bytes (slice_index_or (map string_bytes (line ∷ more)) k d))) (at (k + 1) fits)
    ∙ ap (λ bytes. is_lt (slice_cmp nat_cmp (string_bytes (slice_index_or (line ∷ more) (k + 1) line)) bytes))
    (at k (omega (arith, fits))) ∙ sorted k line from fits
  where
    fits : k + 1 < length (line ∷ more)
    fits = subst (λ n. k + 1 < n) (length-map (line ∷ more) string_bytes) to

    at : (i : ℕ) → i < length (line ∷ more)
        → slice_index_or (map string_bytes (line ∷ more)) i d ≡ string_bytes (slice_index_or (line ∷ more) i line)
    at i below = get_or-map string_bytes (line ∷ more) i line d below

-- sorted refusals behind the lines of granted units
pub served_text : {L Z : Type 0} (notes : List (SessionNote L)) (door_failed : Bool) (lines ordered : List (String Z)) (text : List ℕ)
    → map string_bytes lines ≡ refusal_lines notes → IsPermutation lines ordered → IsSorted string_cmp ordered
    → text ≡ concat (unit_lines notes) ++ concat (map string_bytes ordered) ++ (if door_failed then codes "door failed\n" else [])
    → IsServedText notes door_failed text
served_text notes door_failed lines ordered text are each sorted is = record {
  refusals = map string_bytes ordered;
  each = subst (λ all. IsPermutation all (map string_bytes ordered)) are (IsPermutation-map string_bytes lines ordered each);
  ordered = bytes_sorted ordered sorted;
  is = is;
}
