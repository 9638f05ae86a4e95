-- Numbers of 32 bits in a range, by their low bytes.
use Rattle.std.proofs.Common.{◌≡◌, ℕ, zero, suc, ◌+◌, ◌-◌, ◌/◌, ◌%◌, ◌<◌, ◌≤◌, List, [], ◌∷◌, ◌++◌, length, take, get_or, replicate, refl, sym, ◌∙◌, ap, arith, length-append, subst}
use Rattle.std.specs.Prelude.{All}
use Rattle.std.specs.Int.{w32, from_le_bytes, to_le_bytes}
use Rattle.std.proofs.lemmas.Nat.{le_bytes_4}
use Rattle.std.proofs.lemmas.List.{take_at, length-replicate, get_or_past}
use Rattle.proof_frames.specs.Rows.{number_size, next_with}
use Rattle.proof_frames.proofs.Octets.{IsByte, byte_at}

-- ---- the least number that has low bytes

-- no number that has them, from the same one on, is below it
pub next_most : (at least n : ℕ) → least ≤ n → next_with least (number_size at) (n % number_size at) ≤ n
next_most zero least n from = omega arith
next_most (suc zero) least n from = omega arith
next_most (suc (suc zero)) least n from = omega arith
next_most (suc (suc (suc at))) least n from = omega arith

-- it has them
pub next_low : (at least low : ℕ) → low < number_size at → next_with least (number_size at) low % number_size at ≡ low
next_low zero least low small = omega arith
next_low (suc zero) least low small = omega arith
next_low (suc (suc zero)) least low small = omega arith
next_low (suc (suc (suc at))) least low small = omega arith

-- ---- low bytes

-- the low bytes of a number
pub low_bytes : (at n : ℕ) → at < 4 → from_le_bytes w32 (take (at + 1) (to_le_bytes w32 n)) ≡ n % number_size at
low_bytes zero n less = omega arith
low_bytes (suc zero) n less = omega arith
low_bytes (suc (suc zero)) n less = omega arith
low_bytes (suc (suc (suc zero))) n less = omega arith
low_bytes (suc (suc (suc (suc at)))) n less = absurd (omega arith)

-- they are those of what is left of it by the size
same_low : (at n : ℕ) → at < 4 → take (at + 1) (to_le_bytes w32 (n % number_size at)) ≡ take (at + 1) (to_le_bytes w32 n)
same_low zero n less = λ i. (let e : n % 256 % 256 ≡ n % 256 = omega arith in e i) ∷ []
same_low (suc zero) n less =
    λ i. (let e : n % 65536 % 256 ≡ n % 256 = omega arith in e i) ∷ (let e : n % 65536 / 256 % 256 ≡ n / 256 % 256 = omega arith in e i) ∷ []
same_low (suc (suc zero)) n less = λ i.
    (let e : n % 16777216 % 256 ≡ n % 256 = omega arith in e i)
    ∷ (let e : n % 16777216 / 256 % 256 ≡ n / 256 % 256 = omega arith in e i)
    ∷ (let e : n % 16777216 / 65536 % 256 ≡ n / 65536 % 256 = omega arith in e i)
    ∷ []
same_low (suc (suc (suc zero))) n less = λ i.
    (let e : n % 4294967296 % 256 ≡ n % 256 = omega arith in e i)
    ∷ (let e : n % 4294967296 / 256 % 256 ≡ n / 256 % 256 = omega arith in e i)
    ∷ (let e : n % 4294967296 / 65536 % 256 ≡ n / 65536 % 256 = omega arith in e i)
    ∷ (let e : n % 4294967296 / 16777216 % 256 ≡ n / 16777216 % 256 = omega arith in e i)
    ∷ []
same_low (suc (suc (suc (suc at)))) n less = absurd (omega arith)

-- with zeros behind
pub padded_at : (bytes : List ℕ) (many k : ℕ) → get_or (bytes ++ replicate many 0) k 0 ≡ get_or bytes k 0
padded_at [] zero k = refl
padded_at [] (suc many) zero = refl
padded_at [] (suc many) (suc k) = padded_at [] many k
padded_at (byte ∷ bytes) many zero = refl
padded_at (byte ∷ bytes) many (suc k) = padded_at bytes many k

-- bytes that say what the low ones of a number say are those
pub low_front : (at n : ℕ) (bytes : List ℕ) → at < 4 → length bytes ≡ at + 1 → All IsByte bytes → n % number_size at ≡ from_le_bytes w32 bytes
    → bytes ≡ take (at + 1) (to_le_bytes w32 n)
low_front at n bytes less sized all same =
    let padded : List ℕ = bytes ++ replicate (3 - at) 0 in
    let says : n % number_size at ≡ from_le_bytes w32 padded =
    omega (arith, same, padded_at bytes (3 - at) 0, padded_at bytes (3 - at) 1, padded_at bytes (3 - at) 2, padded_at bytes (3 - at) 3) in
    let four : to_le_bytes w32 (n % number_size at) ≡ padded =
    le_bytes_4 padded (n % number_size at) (omega (arith, sized, length-append bytes (replicate (3 - at) 0), length-replicate {A = ℕ} (3 - at) 0))
    (λ i. subst IsByte (sym (padded_at bytes (3 - at) i)) (byte_at bytes all i)) says in
    sym (take_at bytes (replicate (3 - at) 0) (at + 1) sized) ∙ ap (take (at + 1)) (sym four) ∙ same_low at n less

-- as many bytes are a number below the size
pub below_size : (at : ℕ) (bytes : List ℕ) → length bytes ≡ at + 1 → All IsByte bytes → from_le_bytes w32 bytes < number_size at
below_size at bytes sized all = by_at at sized
  where
    past : (k : ℕ) → length bytes ≤ k → get_or bytes k 0 ≡ 0
    past k behind = get_or_past bytes k 0 behind

    by_at : (at : ℕ) → length bytes ≡ at + 1 → from_le_bytes w32 bytes < number_size at
    by_at zero sized = omega (arith, byte_at bytes all 0, past 1 (omega arith), past 2 (omega arith), past 3 (omega arith))
    by_at (suc zero) sized = omega (arith, byte_at bytes all 0, byte_at bytes all 1, past 2 (omega arith), past 3 (omega arith))
    by_at (suc (suc zero)) sized = omega (arith, byte_at bytes all 0, byte_at bytes all 1, byte_at bytes all 2, past 3 (omega arith))
    by_at (suc (suc (suc at))) sized = omega (arith, byte_at bytes all 0, byte_at bytes all 1, byte_at bytes all 2, byte_at bytes all 3)
