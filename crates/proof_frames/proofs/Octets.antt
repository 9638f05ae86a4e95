-- Bytes, and the numbers that they say.
use Rattle.std.proofs.Common.{◌≡◌, ℕ, ◌/◌, ◌%◌, ◌^◌, ◌<◌, ◌≤◌, ◌⊎◌, inl, inr, List, [], ◌∷◌, ◌++◌, length, get_or, refl, sym, ◌∙◌, ap, arith, length-append, subst}
use Rattle.std.specs.Prelude.{All}
use Rattle.std.specs.Int.{w32, w64, from_le_bytes, to_le_bytes}
use Rattle.std.proofs.lemmas.Bool.{cases_lt}
use Rattle.std.proofs.lemmas.Nat.{le_bytes_4, le_bytes_8, from_le_bytes-to_le_bytes_8}
use Rattle.std.proofs.lemmas.List.{get_or_past, get_or_push}
use Rattle.std.proofs.lemmas.List.Elements.{All-get_or, All-from_recursion, All-push}
use Rattle.zk_model.specs.Field.{IsElement}
use Rattle.zk_model.specs.Bytes.{element_bytes}

-- a byte
abbrev pub IsByte : ℕ → Type 0
IsByte byte = byte < 256

-- what is read at any place of a list of bytes is a byte
pub byte_at : (bytes : List ℕ) → All IsByte bytes → (i : ℕ) → get_or bytes i 0 < 256
byte_at bytes all i = by_case (cases_lt i (length bytes))
  where
    by_case : (i < length bytes) ⊎ (length bytes ≤ i) → get_or bytes i 0 < 256
    by_case (inl within) = All-get_or IsByte bytes i 0 within all
    by_case (inr past) = let none : get_or bytes i 0 ≡ 0 = get_or_past bytes i 0 past in omega (arith, none)

-- the number of 8 bytes
pub below_64 : (bytes : List ℕ) → All IsByte bytes → from_le_bytes w64 bytes < 2 ^ 64
below_64 bytes all =
    let at = byte_at bytes all in
    omega (arith, at 0, at 1, at 2, at 3, at 4, at 5, at 6, at 7)

-- the number of 4 bytes
pub below_32 : (bytes : List ℕ) → All IsByte bytes → from_le_bytes w32 bytes < 2 ^ 32
below_32 bytes all =
    let at = byte_at bytes all in
    omega (arith, at 0, at 1, at 2, at 3)

-- 8 bytes are those of their number
pub back_64 : (bytes : List ℕ) → length bytes ≡ 8 → All IsByte bytes → to_le_bytes w64 (from_le_bytes w64 bytes) ≡ bytes
back_64 bytes sized all = le_bytes_8 bytes (from_le_bytes w64 bytes) sized (byte_at bytes all) refl

-- 4 bytes are those of their number
pub back_32 : (bytes : List ℕ) → length bytes ≡ 4 → All IsByte bytes → to_le_bytes w32 (from_le_bytes w32 bytes) ≡ bytes
back_32 bytes sized all = le_bytes_4 bytes (from_le_bytes w32 bytes) sized (byte_at bytes all) refl

-- the four bytes of a number
pub half_octets : (n : ℕ) → All IsByte (to_le_bytes w32 n)
half_octets n = All-from_recursion IsByte (to_le_bytes w32 n) (below n, (below (n / 256), (below (n / 65536), (below (n / 16777216), tt))))
  where
    below : (n : ℕ) → n % 256 < 256
    below n = omega arith

-- at most seven bytes and a zero say an element
pub ends_in_zero : (seven : List ℕ) → length seven ≤ 7 → All IsByte seven → IsElement (from_le_bytes w64 (seven ++ 0 ∷ []))
ends_in_zero seven short all =
    let at = byte_at (seven ++ 0 ∷ []) (All-push IsByte seven 0 all (omega arith)) in
    let last : get_or (seven ++ 0 ∷ []) 7 0 ≡ 0 = by_length (cases_lt (length seven) 7) in
    omega (arith, at 0, at 1, at 2, at 3, at 4, at 5, at 6, last)
  where
    by_length : (length seven < 7) ⊎ (7 ≤ length seven) → get_or (seven ++ 0 ∷ []) 7 0 ≡ 0
    by_length (inl less) = get_or_past (seven ++ 0 ∷ []) 7 0 (omega (arith, length-append seven (0 ∷ [])))
    by_length (inr whole) = get_or_push seven 0 0 7 (omega arith)

-- the bytes of an element say one
pub says_element : (eight : List ℕ) (element : ℕ) → IsElement element → eight ≡ element_bytes element → IsElement (from_le_bytes w64 eight)
says_element eight element is same =
    subst IsElement (sym (ap (from_le_bytes w64) same ∙ from_le_bytes-to_le_bytes_8 element (omega (arith, is)))) is
