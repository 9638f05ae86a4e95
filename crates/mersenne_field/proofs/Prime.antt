-- 2^61 - 1 is a prime, by Lucas and Lehmer's test of Mersenne numbers: the powers of 2 + √3 modulo a divisor have
-- 2^61 places of their own, so that no divisor but 1 has a square below the prime. Hence a product is 0 modulo the
-- prime only where a factor is.
use Rattle.std.proofs.Common.{◌≡◌, ℕ, ◌+◌, ◌-◌, ◌*◌, ◌/◌, ◌%◌, ◌^◌, ◌<◌, ◌≤◌, ◌⊎◌, inl, inr, zero, suc, ap, arith, refl, ◌∙◌, sym, zero-lt-suc, not-suc-le-zero, mod-lt, suc-le-suc, mul_assoc, eqb, true, false}
use Rattle.std.proofs.Math.Nat.{zero-add, two-pow-succ, mul-add-mod_self_left, mul-mod_right, zero-mod, le_of_dvd, dvd_of_mod-eq-zero, mod-add-mod, mul-le-mul_right, mul-le-mul_left, eq_of_mul-eq-mul_right, div-add-mod, eq-zero-or-pos, mul_comm, le_of_lt, le_refl}
use Rattle.std.proofs.lemmas.Nat.{pow-add, mod-mul-add, mul-mod_first}
use Rattle.std.proofs.lemmas.Bool.Decides.{nat_tests}
use Rattle.mersenne_field.proofs.UnitPowers.{whole, root, whole-zero, root-zero, power-add, pell, whole-double, root-double, whole-residue}
use Rattle.mersenne_field.proofs.Congruence.{same-+, same-*}
use Rattle.zk_model.specs.Field.{prime}
use Rattle.mersenne_field.specs.Laws.{PrimeIsPrime, ZeroProduct}

-- the number, or another one in the place of the last
abbrev moved : ℕ → ℕ → ℕ → ℕ
moved last other x = elim (eqb x last) [ true ↦ other | false ↦ x ]

-- moved numbers lie below the last, and stay apart
moved-lt : (last other x : ℕ) → x < suc last → other < suc last → (x ≡ last → other ≡ last → ⊥) → moved last other x < last
moved-lt last other x h k apart = grind (arith, nat_tests)

moved-distinct : (last other x y : ℕ) → (x ≡ y → ⊥) → (x ≡ other → ⊥) → (y ≡ other → ⊥) → moved last other x ≡ moved last other y → ⊥
moved-distinct last other x y h i j e = grind (arith, nat_tests)

-- numbers with places of their own are at most as many as the places
pigeonhole : (m n : ℕ) (f : ℕ → ℕ) → ((i : ℕ) → i < n → f i < m) → ((i j : ℕ) → i < j → j < n → f i ≡ f j → ⊥) → n ≤ m
pigeonhole zero zero f below distinct = omega arith
pigeonhole zero (suc n) f below distinct = absurd (not-suc-le-zero (below 0 (zero-lt-suc n)))
pigeonhole (suc m) zero f below distinct = omega arith
pigeonhole (suc m) (suc n) f below distinct =
    suc-le-suc (pigeonhole m n (λ i. moved m (f n) (f i))
    (λ i h. moved-lt m (f n) (f i) (below i (omega arith)) (below n (omega arith)) (λ e e'. distinct i n h (omega arith) (e ∙ sym e')))
    (λ i j h k e.
    moved-distinct m (f n) (f i) (f j) (distinct i j h (omega arith)) (distinct i n (omega arith) (omega arith)) (distinct j n k (omega arith)) e))

-- the powers by m and by n are congruent
abbrev Same : ℕ → ℕ → ℕ → Type 0
Same q m n = (whole m % q ≡ whole n % q) × (root m % q ≡ root n % q)

-- congruent parts give congruent sums of products
combine : (q w r w' r' x y : ℕ) → w % q ≡ w' % q → r % q ≡ r' % q → (w * x + r * y) % q ≡ (w' * x + r' * y) % q
combine q w r w' r' x y e f =
    same-+ q (w * x) (w' * x) (r * y) (r' * y) (same-* q w w' x x e refl) (same-* q r r' y y f refl)

-- congruence is an equivalence, and holds on when a power is added on both sides
same-sym : (q m n : ℕ) → Same q m n → Same q n m
same-sym q m n h = (sym h.0, sym h.1)

same-trans : (q m n k : ℕ) → Same q m n → Same q n k → Same q m k
same-trans q m n k h i = (h.0 ∙ i.0, h.1 ∙ i.1)

same-eq : (q m n : ℕ) → m ≡ n → Same q m n
same-eq q m n e = (ap (λ k. whole k % q) e, ap (λ k. root k % q) e)

same-add : (q m n k : ℕ) → Same q m n → Same q (m + k) (n + k)
same-add q m n k h = (
  rw ((power-add m k).0, (power-add n k).0) (combine q (whole m) (root m) (whole n) (root n) (whole k) (3 * root k) h.0 h.1),
  rw ((power-add m k).1, (power-add n k).1) (combine q (whole m) (root m) (whole n) (root n) (root k) (whole k) h.0 h.1),
)

-- two equal powers below a trivial one: the power by their difference is trivial
same-difference : (q i m n : ℕ) → Same q i (i + m) → Same q (i + n) 0 → Same q m 0
same-difference q i m n h e =
    let moved_up : Same q (i + n) (i + m + n) = same-add q i (i + m) n h in
    let regrouped : Same q (i + m + n) (i + n + m) = same-eq q _ _ (omega arith) in
    let again : Same q (i + n + m) (0 + m) = same-add q (i + n) 0 m e in
    let plain : Same q (0 + m) m = same-eq q _ _ (zero-add m) in
    same-sym q 0 m (same-trans q _ _ _ (same-sym q _ _ e) (same-trans q _ _ _ moved_up (same-trans q _ _ _ regrouped (same-trans q _ _ _ again plain))))

-- a multiple of a trivial power is trivial
same-mul : (q m k : ℕ) → Same q m 0 → Same q (m * k) 0
same-mul q m zero h = same-eq q _ _ (omega arith)
same-mul q m (suc k) h =
    same-trans q _ _ _ (same-eq q (m * suc k) (m + m * k) (omega arith))
    (same-trans q _ _ _ (same-add q m 0 (m * k) h) (same-trans q _ _ _ (same-eq q (0 + m * k) (m * k) (zero-add _)) (same-mul q m k h)))

-- what the prime divides, a divisor of the prime divides
mod-zero_divisor : (q e x : ℕ) → prime ≡ q * e → x % prime ≡ 0 → (t : ℕ) × (x ≡ q * t)
mod-zero_divisor q e x h z =
    let t = x / prime in
    let whole_times : x ≡ prime * t = omega arith in
    (e * t, whole_times ∙ ap (λ n. n * t) h ∙ mul_assoc q e t)

-- the whole part is a multiple of q: so is that of the double power, and 1
doubled_whole : (q t w d : ℕ) → w ≡ q * t → d + 1 ≡ 2 * (w * w) → d + 1 ≡ q * (2 * (t * w))
doubled_whole q t w d e h = omega (arith, ap (λ n. n * w) e)

-- then what stands before √3 in the double power is a multiple too
doubled_root : (q t w r d : ℕ) → w ≡ q * t → d ≡ 2 * (w * r) → d ≡ q * (2 * (t * r))
doubled_root q t w r d e h = omega (arith, ap (λ n. n * r) e)

-- and the double of that double leaves 1
doubled_last : (q s w r d : ℕ) → r ≡ q * s → w * w ≡ 3 * (r * r) + 1 → d + 1 ≡ 2 * (w * w) → d ≡ q * (6 * (s * r)) + 1
doubled_last q s w r d e h k = omega (arith, ap (λ n. n * r) e)

-- the facts at a divisor of the prime
record AtDivisor (q : ℕ) : Type 0 where
  minus_one : (t : ℕ) × (whole (2 ^ 60) + 1 ≡ q * t)
  one : Same q (2 ^ 61) 0

-- each divisor of the prime has them
at_divisor : (q e : ℕ) → prime ≡ q * e → AtDivisor q
at_divisor q e h =
    let found = mod-zero_divisor q e (whole (2 ^ 59)) h (whole-residue 59) in
    let t : ℕ = found.0 in
    let is_multiple : whole (2 ^ 59) ≡ q * t = found.1 in
    let s : ℕ = 2 * (t * root (2 ^ 59)) in
    let u : ℕ = whole (2 ^ 60) in
    let r : ℕ = root (2 ^ 60) in
    let whole_60 : u + 1 ≡ q * (2 * (t * whole (2 ^ 59))) = doubled_whole q t _ _ is_multiple (whole-double (2 ^ 59)) in
    let root_60 : r ≡ q * s = doubled_root q t (whole (2 ^ 59)) (root (2 ^ 59)) _ is_multiple (root-double (2 ^ 59)) in
    let whole_61 : whole (2 ^ 61) ≡ q * (6 * (s * r)) + 1 = doubled_last q s u r _ root_60 (pell (2 ^ 60)) (whole-double (2 ^ 60)) in
    let root_61 : root (2 ^ 61) ≡ q * (2 * (s * u)) = doubled_root q s r u _ root_60 (root-double (2 ^ 60) ∙ omega arith) in
    record {
      minus_one = (2 * (t * whole (2 ^ 59)), whole_60);
      one = (
        rw (whole_61, whole-zero) (mul-add-mod_self_left q _ 1),
        rw (root_61, root-zero) (mul-mod_right q _ ∙ sym (zero-mod q)),
      );
    }

-- 2 is no divisor of the prime
odd_divisor : (q e : ℕ) → 1 < q → prime ≡ q * e → 2 % q ≡ 0 → ⊥
odd_divisor q e big h z =
    let at_most : q ≤ 2 = le_of_dvd (zero-lt-suc 1) (dvd_of_mod-eq-zero q z) in
    let two : q ≡ 2 = omega arith in
    let even : prime ≡ 2 * e = h ∙ ap (λ n. n * e) two in omega arith

-- the power by 2 ^ 60 is not trivial
not_one_at_half : (q e : ℕ) → 1 < q → prime ≡ q * e → AtDivisor q → Same q (2 ^ 60) 0 → ⊥
not_one_at_half q e big h a same =
    let one : whole (2 ^ 60) % q ≡ 1 % q = same.0 ∙ ap (λ n. n % q) whole-zero in
    let next : (whole (2 ^ 60) + 1) % q ≡ 0 = ap (λ n. n % q) a.minus_one.1 ∙ mul-mod_right q a.minus_one.0 in
    let two : 2 % q ≡ 0 = sym (mod-add-mod 1 q 1) ∙ ap (λ n. (n + 1) % q) (sym one) ∙ mod-add-mod (whole (2 ^ 60)) q 1 ∙ next in
    odd_divisor q e big h two

-- a number is twice its half, or one more
even_or_odd : (m : ℕ) → (m ≡ 2 * (m / 2)) ⊎ (m ≡ 2 * (m / 2) + 1)
even_or_odd m = grind arith

-- no power below 2 ^ 61 but that by 0 is trivial
never : (q e : ℕ) → 1 < q → prime ≡ q * e → AtDivisor q → (k c m : ℕ) → 0 < m → m < 2 ^ k → k + c ≡ 61 → Same q (m * 2 ^ c) 0 → ⊥
never q e big h a zero c m pos below sum same = absurd (omega arith)
never q e big h a (suc k) c m pos below sum same =
    elim (even_or_odd m) [
      | inl even ↦
          never q e big h a k (suc c) (m / 2) (omega arith) (let twice : 2 ^ suc k ≡ 2 ^ k + 2 ^ k = two-pow-succ k in omega arith) (omega arith)
          (same-trans q _ _ _ (same-eq q (m / 2 * 2 ^ suc c) (m * 2 ^ c) (rw two-pow-succ (omega (arith, ap (λ n. n * 2 ^ c) even)))) same)
      | inr odd ↦
          let power : 2 ^ c * 2 ^ k ≡ 2 ^ 60 = sym (pow-add 2 c k) ∙ ap (λ n. 2 ^ n) (let s : c + k ≡ 60 = omega arith in s) in
          let exponent : m * 2 ^ c * 2 ^ k ≡ 2 ^ 61 * (m / 2) + 2 ^ 60 = mul_assoc m (2 ^ c) (2 ^ k) ∙ ap (λ n. m * n) power ∙ omega arith in
          let multiple : Same q (m * 2 ^ c * 2 ^ k) 0 = same-mul q (m * 2 ^ c) (2 ^ k) same in
          let whole_part : Same q (2 ^ 61 * (m / 2)) 0 = same-mul q (2 ^ 61) (m / 2) a.one in
          let up : Same q (2 ^ 61 * (m / 2) + 2 ^ 60) (0 + 2 ^ 60) = same-add q _ 0 (2 ^ 60) whole_part in
          not_one_at_half q e big h a
          (same-trans q _ _ _ (same-sym q _ _ up) (same-trans q _ _ _ (same-sym q _ _ (same-eq q _ _ exponent)) multiple))
    ]

-- a number for the n-th power modulo q
place : ℕ → ℕ → ℕ
place q n = whole n % q * q + root n % q

-- it is below the square of q
place-lt : (q n : ℕ) → 1 < q → place q n < q * q
unfolding place
place-lt q n big =
    let w : whole n % q < q = mod-lt (whole n) (omega arith) in
    let r : root n % q < q = mod-lt (root n) (omega arith) in
    omega (arith, mul-le-mul_right q w)

-- powers of one place are congruent
same-place : (q i j : ℕ) → 1 < q → place q i ≡ place q j → Same q i j
unfolding place
same-place q i j big e =
    let below : (n : ℕ) → root n % q < q = λ n. mod-lt (root n) (omega arith) in
    let roots : root i % q ≡ root j % q =
    sym (mod-mul-add (whole i % q) q (root i % q) (below i)) ∙ ap (λ n. n % q) e ∙ mod-mul-add (whole j % q) q (root j % q) (below j) in
    (eq_of_mul-eq-mul_right q (omega arith) _ _ (omega arith), roots)

-- the powers below 2 ^ 61 have places of their own
place-distinct : (q e : ℕ) → 1 < q → prime ≡ q * e → AtDivisor q → (i j : ℕ) → i < j → j < 2 ^ 61 → place q i ≡ place q j → ⊥
place-distinct q e big h a i j less below same =
    let m : ℕ = j - i in
    let apart : Same q i (i + m) = same-trans q _ _ _ (same-place q i j big same) (same-eq q j (i + m) (omega arith)) in
    let end : Same q (i + (2 ^ 61 - i)) 0 = same-trans q _ _ _ (same-eq q (i + (2 ^ 61 - i)) (2 ^ 61) (omega arith)) a.one in
    let trivial : Same q m 0 = same-difference q i m (2 ^ 61 - i) apart end in
    never q e big h a 61 0 m (omega arith) (omega arith) refl (same-trans q _ _ _ (same-eq q (m * 2 ^ 0) m (omega arith)) trivial)

-- a divisor above 1 has a square above the prime
divisor-large : (q e : ℕ) → 1 < q → prime ≡ q * e → 2 ^ 61 ≤ q * q
divisor-large q e big h =
    pigeonhole (q * q) (2 ^ 61) (place q) (λ i _. place-lt q i big) (place-distinct q e big h (at_divisor q e h))

-- the smaller of two factors is 1
small_factor : (d e : ℕ) → prime ≡ d * e → d ≤ e → d ≡ 1
small_factor zero e h le = absurd (omega arith)
small_factor (suc zero) e h le = refl
small_factor (suc (suc d)) e h le =
    absurd (omega (arith, divisor-large (suc (suc d)) e (omega arith) h, mul-le-mul_left (suc (suc d)) le))

-- of two numbers one is at most the other, or above it
le_or_lt : (m n : ℕ) → (m ≤ n) ⊎ (n < m)
le_or_lt m n = grind arith

-- of two factors of the prime one is 1
factor_one : (d e : ℕ) → prime ≡ d * e → (d ≡ 1) ⊎ (e ≡ 1)
factor_one d e h =
    elim (le_or_lt d e) [
      | inl le ↦ inl (small_factor d e h le)
      | inr lt ↦ inr (small_factor e d (h ∙ mul_comm d e) (le_of_lt lt))
    ]

-- what the prime divides in a product with a smaller number is the other factor
divides_other : (fuel a b : ℕ) → a ≤ fuel → 0 < a → a < prime → (a * b) % prime ≡ 0 → b % prime ≡ 0
divides_other zero a b le pos below h = absurd (omega arith)
divides_other (suc fuel) a b le pos below h =
    let r : ℕ = prime % a in
    let t : ℕ = prime / a in
    let split : prime ≡ a * t + r = sym (div-add-mod prime a) in
    let small : r < a = mod-lt prime pos in
    elim (eq-zero-or-pos r) [
      | inl none ↦
          elim (factor_one a t (omega arith)) [
            | inl one ↦ let plain : a * b ≡ b = ap (λ n. n * b) one ∙ omega arith in ap (λ n. n % prime) (sym plain) ∙ h
            | inr one ↦ let all : a * t ≡ a = ap (λ n. a * n) one ∙ omega arith in absurd (omega arith)
          ]
      | inr some ↦
          divides_other fuel r b (omega arith) some (omega arith)
          (let whole_product : prime * b ≡ a * b * t + r * b = ap (λ n. n * b) split ∙ omega arith in
          let first : (a * b * t) % prime ≡ 0 = sym (mul-mod_first (a * b) t prime) ∙ ap (λ n. (n * t) % prime) h ∙ omega arith in omega arith)
    ]

pub prime_is_prime : PrimeIsPrime
prime_is_prime divisor quotient big small h =
    elim (factor_one divisor quotient (sym h)) [
      | inl one ↦ absurd (omega (arith, one))
      | inr one ↦ let all : divisor * quotient ≡ divisor * 1 = ap (λ n. divisor * n) one in absurd (omega (arith, all))
    ]

pub zero_product : ZeroProduct
zero_product a b ha hb h =
    elim (eq-zero-or-pos a) [
      | inl none ↦ inl none
      | inr some ↦ inr (let z : b % prime ≡ 0 = divides_other a a b (le_refl a) some ha h in omega arith)
    ]
