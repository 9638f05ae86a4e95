-- What holds in each of the eight lanes.
use Rattle.std.proofs.Common.{◌≡◌, ℕ, zero, suc, ◌<◌, ◌+◌, ◌-◌, ◌*◌, ◌/◌, ◌%◌, ◌^◌, List, [], length, map, replicate, slice_index, slice_index_or, bit_or, Fits, arith, refl, sym, ◌∙◌, subst, inl, inr}
use Rattle.std.specs.Int.{rotate_right, w32}
use Rattle.std.specs.Simd.Lanes.{Each1, zip2}
use Rattle.std.proofs.lemmas.Bool.{cases_lt}
use Rattle.std.proofs.lemmas.List.{get_or-map, get_or-replicate, length-replicate}
use Rattle.std.proofs.lemmas.Simd.{Each1-get_or, get_or-zip2, length-zip2}

-- what holds of each of eight numbers
pub below_eight : (P : ℕ → Type 0) → P 0 → P 1 → P 2 → P 3 → P 4 → P 5 → P 6 → P 7 → (j : ℕ) → j < 8 → P j
below_eight P p0 p1 p2 p3 p4 p5 p6 p7 zero h = p0
below_eight P p0 p1 p2 p3 p4 p5 p6 p7 (suc zero) h = p1
below_eight P p0 p1 p2 p3 p4 p5 p6 p7 (suc (suc zero)) h = p2
below_eight P p0 p1 p2 p3 p4 p5 p6 p7 (suc (suc (suc zero))) h = p3
below_eight P p0 p1 p2 p3 p4 p5 p6 p7 (suc (suc (suc (suc zero)))) h = p4
below_eight P p0 p1 p2 p3 p4 p5 p6 p7 (suc (suc (suc (suc (suc zero))))) h = p5
below_eight P p0 p1 p2 p3 p4 p5 p6 p7 (suc (suc (suc (suc (suc (suc zero)))))) h = p6
below_eight P p0 p1 p2 p3 p4 p5 p6 p7 (suc (suc (suc (suc (suc (suc (suc zero))))))) h = p7
below_eight P p0 p1 p2 p3 p4 p5 p6 p7 (suc (suc (suc (suc (suc (suc (suc (suc n)))))))) h = absurd (omega arith)

-- a function of each lane and of one number
pub each_with : (f : ℕ → ℕ → ℕ) (k : ℕ) (x : List ℕ) (j : ℕ) → length x ≡ 8 → j < 8
    → slice_index (zip2 f x (replicate 8 k)) j ≡ f (slice_index x j) k
each_with f k x j long low =
    get_or-zip2 f x (replicate 8 k) j 0 0 0 (omega arith) (omega (arith, length-replicate 8 k))
    ∙ (λ i. f (slice_index x j) (get_or-replicate 8 j k 0 low i))

-- two shifts of each lane, put together, are a rotation
pub shifts_rotate : (k : ℕ) → 0 < k → k < 32 → (x : List ℕ) → length x ≡ 8 → (j : ℕ) → j < 8
    → slice_index (zip2 bit_or (zip2 (λ x n. x / 2 ^ n) x (replicate 8 k)) (zip2 (λ x n. x * 2 ^ n % 2 ^ 32) x (replicate 8 (32 - k)))) j
    ≡ rotate_right w32 (slice_index x j) k
shifts_rotate k some few x long j low =
    let right : k % 32 ≡ k = omega arith in
    let left : (32 - k) % 32 ≡ 32 - k = omega arith in
    let one = length-zip2 (λ (x : ℕ) (n : ℕ). x / 2 ^ n) x (replicate 8 k) (long ∙ sym (length-replicate 8 k)) in
    let other = length-zip2 (λ (x : ℕ) (n : ℕ). x * 2 ^ n % 2 ^ 32) x (replicate 8 (32 - k)) (long ∙ sym (length-replicate 8 (32 - k))) in
    get_or-zip2 bit_or (zip2 (λ x n. x / 2 ^ n) x (replicate 8 k)) (zip2 (λ x n. x * 2 ^ n % 2 ^ 32) x (replicate 8 (32 - k))) j 0 0 0 (omega (arith, one, long)) (omega (arith, other, long))
    ∙ rw (each_with (λ x n. x / 2 ^ n) k x j long low, each_with (λ x n. x * 2 ^ n % 2 ^ 32) (32 - k) x j long low, right, left) refl

-- a shift of each lane
pub shifts_right : (k : ℕ) (x : List ℕ) → length x ≡ 8 → (j : ℕ) → j < 8
    → slice_index (zip2 (λ x n. x / 2 ^ n) x (replicate 8 k)) j ≡ slice_index x j / 2 ^ k
shifts_right k x long j low = each_with (λ x n. x / 2 ^ n) k x j long low

-- each lane is a word
pub lane_fits : (x : List ℕ) (j : ℕ) → length x ≡ 8 → Each1 (Fits w32) x → j < 8 → slice_index x j < 2 ^ 32
lane_fits x j long each low = (Each1-get_or (Fits w32) x j 0 (omega arith) each).fits

-- what holds of each of the sixteen words
pub below_sixteen : (P : ℕ → Type 0) → P 0 → P 1 → P 2 → P 3 → P 4 → P 5 → P 6 → P 7
    → P 8 → P 9 → P 10 → P 11 → P 12 → P 13 → P 14 → P 15 → (k : ℕ) → k < 16 → P k
below_sixteen P a0 a1 a2 a3 a4 a5 a6 a7 b0 b1 b2 b3 b4 b5 b6 b7 k h = elim (cases_lt k 8) [
  | inl front ↦ below_eight P a0 a1 a2 a3 a4 a5 a6 a7 k front
  | inr back ↦
      let place : 8 + (k - 8) ≡ k = omega (arith, back) in
      subst P place (below_eight (λ n. P (8 + n)) b0 b1 b2 b3 b4 b5 b6 b7 (k - 8) (omega arith))
]

-- a table with each number eight times, read at a row and a lane
pub splatted : (numbers : List ℕ) (k j : ℕ) → k < length numbers → j < 8
    → slice_index (slice_index_or (map (replicate 8) numbers) k []) j ≡ slice_index numbers k
splatted numbers k j below low =
    rw (get_or-map (replicate 8) numbers k 0 [] below) (get_or-replicate 8 j (slice_index numbers k) 0 low)
