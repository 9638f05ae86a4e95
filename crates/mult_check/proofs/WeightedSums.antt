-- Sums under powers of a challenge, term by term.
use Rattle.std.proofs.Common.{◌≡◌, ℕ, ◌+◌, ◌*◌, ◌%◌, ◌^◌, suc, List, [], ◌∷◌, ◌++◌, length, map, pow-add, refl, ap, sym, ◌∙◌, arith, length-append}
use Rattle.std.proofs.Math.Nat.{pow-zero, pow-suc, add-mod-mod, mod-mod}
use Rattle.std.proofs.lemmas.List.{length-map, map-append}
use Rattle.mersenne_field.proofs.Congruence.{same-+, same-*}
use Rattle.zk_model.specs.Field.{prime, ◌+ₚ◌, ◌*ₚ◌}
use Rattle.zk_model.specs.Polynomial.{power_sum}
use Rattle.zk_model.specs.Check.{weighted_sum}

power_sum-push : (v i : ℕ) (terms : List ℕ) (term : ℕ) → power_sum v i (terms ++ term ∷ []) ≡ power_sum v i terms + term * v ^ (i + length terms)
power_sum-push v i [] term =
    let at : i ≡ i + 0 = omega arith in
    ap (λ k. term * v ^ k + 0) at ∙ swap (term * v ^ (i + 0))
  where
    swap : (n : ℕ) → n + 0 ≡ 0 + n
    swap n = omega arith
power_sum-push v i (first ∷ terms) term =
    let at : i + 1 + length terms ≡ i + length (first ∷ terms) = omega arith in
    ap (λ n. first * v ^ i + n) (power_sum-push v (i + 1) terms term)
    ∙ ap (λ k. first * v ^ i + (power_sum v (i + 1) terms + term * v ^ k)) at
    ∙ regroup (first * v ^ i) (power_sum v (i + 1) terms) (term * v ^ (i + length (first ∷ terms)))
  where
    regroup : (a b c : ℕ) → a + (b + c) ≡ a + b + c
    regroup a b c = omega arith

-- the next power
pub power_more : (challenge index power next : ℕ) → next ≡ power *ₚ challenge → power ≡ challenge ^ index % prime → next ≡ challenge ^ (index + 1) % prime
power_more challenge index power next is far =
    is ∙ same-* prime power (challenge ^ index) challenge challenge (ap (λ n. n % prime) far ∙ mod-mod (challenge ^ index) prime) refl
    ∙ ap (λ n. n % prime) (sym (pow_suc challenge index))
  where
    pow_suc : (v k : ℕ) → v ^ (k + 1) ≡ v ^ k * v
    pow_suc v k = let one : k + 1 ≡ suc k = omega arith in ap (λ n. v ^ n) one ∙ pow-suc v k

-- the power of no term
pub no_power : (challenge power : ℕ) → power ≡ 1 → power ≡ challenge ^ 0 % prime
no_power challenge power p = p ∙ sym (ap (λ n. n % prime) (pow-zero challenge))

-- the power of one item more
pub power_push : {T : Type 0} (challenge : ℕ) (items : List T) (item : T) (power next : ℕ) → next ≡ power *ₚ challenge
    → power ≡ challenge ^ length items % prime → next ≡ challenge ^ length (items ++ item ∷ []) % prime
power_push challenge items item power next is far =
    power_more challenge (length items) power next is far ∙ ap (λ k. challenge ^ k % prime) (sym (length-append items (item ∷ [])))

-- the sum of one item more
pub sum_push : {T : Type 0} (part : T → ℕ) (challenge : ℕ) (items : List T) (item : T) (sum power next : ℕ)
    → next ≡ sum +ₚ (part item *ₚ power) → power ≡ challenge ^ length (items ++ item ∷ []) % prime
    → sum ≡ weighted_sum challenge (map part items) → next ≡ weighted_sum challenge (map part (items ++ item ∷ []))
sum_push part challenge items item sum power next is weight far =
    let term = part item in
    let before = power_sum challenge 1 (map part items) in
    let place : 1 + length (map part items) ≡ length (items ++ item ∷ []) = omega (arith, length-map items part, length-append items (item ∷ [])) in
    let whole : power_sum challenge 1 (map part (items ++ item ∷ [])) ≡ before + term * challenge ^ length (items ++ item ∷ []) =
    ap (power_sum challenge 1) (map-append part items (item ∷ []))
    ∙ power_sum-push challenge 1 (map part items) term
    ∙ ap (λ k. before + term * challenge ^ k) place in
    is ∙ add-mod-mod sum (term * power) prime
    ∙ same-+ prime sum before (term * power) (term * challenge ^ length (items ++ item ∷ []))
    (ap (λ n. n % prime) far ∙ mod-mod before prime)
    (same-* prime term term power (challenge ^ length (items ++ item ∷ [])) refl (ap (λ n. n % prime) weight ∙ mod-mod (challenge ^ length (items ++ item ∷ [])) prime))
    ∙ ap (λ n. n % prime) (sym whole)

-- ---- two lists, one after the other

power_sum-shift : (v i n : ℕ) (terms : List ℕ) → power_sum v (i + n) terms ≡ power_sum v i terms * v ^ n
power_sum-shift v i n [] = none (v ^ n)
  where
    none : (m : ℕ) → 0 ≡ 0 * m
    none m = omega arith
power_sum-shift v i n (term ∷ terms) =
    let next : i + n + 1 ≡ i + 1 + n = omega arith in
    (λ j. term * pow-add v i n j + (ap (λ k. power_sum v k terms) next ∙ power_sum-shift v (i + 1) n terms) j)
    ∙ regroup term (v ^ i) (v ^ n) (power_sum v (i + 1) terms)
  where
    regroup : (t a b s : ℕ) → t * (a * b) + s * b ≡ (t * a + s) * b
    regroup t a b s = omega arith

power_sum-append : (v i : ℕ) (first rest : List ℕ) → power_sum v i (first ++ rest) ≡ power_sum v i first + power_sum v (i + length first) rest
power_sum-append v i [] rest = let at : i ≡ i + 0 = omega arith in ap (λ k. power_sum v k rest) at ∙ none (power_sum v (i + 0) rest)
  where
    none : (m : ℕ) → m ≡ 0 + m
    none m = omega arith
power_sum-append v i (term ∷ first) rest =
    let at : i + 1 + length first ≡ i + length (term ∷ first) = omega arith in
    ap (λ n. term * v ^ i + n) (power_sum-append v (i + 1) first rest ∙ ap (λ k. power_sum v (i + 1) first + power_sum v k rest) at)
    ∙ regroup (term * v ^ i) (power_sum v (i + 1) first) (power_sum v (i + length (term ∷ first)) rest)
  where
    regroup : (a b c : ℕ) → a + (b + c) ≡ a + b + c
    regroup a b c = omega arith

-- the power of both
pub power_joined : {T : Type 0} (challenge : ℕ) (first rest : List T) (power later joined : ℕ) → joined ≡ power *ₚ later
    → power ≡ challenge ^ length first % prime → later ≡ challenge ^ length rest % prime → joined ≡ challenge ^ length (first ++ rest) % prime
power_joined challenge first rest power later joined is far behind =
    is ∙ same-* prime power (challenge ^ length first) later (challenge ^ length rest)
    (ap (λ n. n % prime) far ∙ mod-mod (challenge ^ length first) prime) (ap (λ n. n % prime) behind ∙ mod-mod (challenge ^ length rest) prime)
    ∙ ap (λ n. n % prime) (sym (pow-add challenge (length first) (length rest)) ∙ ap (λ k. challenge ^ k) (sym (length-append first rest)))

-- the sum of both: the later one times the power that the first list ends at
pub sum_joined : {T : Type 0} (part : T → ℕ) (challenge : ℕ) (first rest : List T) (sum later power joined : ℕ)
    → joined ≡ sum +ₚ (later *ₚ power) → power ≡ challenge ^ length first % prime
    → sum ≡ weighted_sum challenge (map part first) → later ≡ weighted_sum challenge (map part rest)
    → joined ≡ weighted_sum challenge (map part (first ++ rest))
sum_joined part challenge first rest sum later power joined is weight far behind =
    let before = power_sum challenge 1 (map part first) in
    let after = power_sum challenge 1 (map part rest) in
    is ∙ add-mod-mod sum (later * power) prime
    ∙ same-+ prime sum before (later * power) (after * challenge ^ length first)
    (ap (λ n. n % prime) far ∙ mod-mod before prime)
    (same-* prime later after power (challenge ^ length first) (ap (λ n. n % prime) behind ∙ mod-mod after prime)
    (ap (λ n. n % prime) weight ∙ mod-mod (challenge ^ length first) prime))
    ∙ ap (λ n. n % prime) (sym whole)
  where
    place : 1 + length (map part first) ≡ 1 + length first
    place = ap (λ n. 1 + n) (length-map first part)

    whole : power_sum challenge 1 (map part (first ++ rest)) ≡ power_sum challenge 1 (map part first) + power_sum challenge 1 (map part rest) * challenge ^ length first
    whole = ap (power_sum challenge 1) (map-append part first rest)
        ∙ power_sum-append challenge 1 (map part first) (map part rest)
        ∙ ap (λ n. power_sum challenge 1 (map part first) + n) (ap (λ k. power_sum challenge k (map part rest)) place ∙ power_sum-shift challenge 1 (length first) (map part rest))
