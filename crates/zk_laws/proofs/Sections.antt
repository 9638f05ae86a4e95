-- A section whose products are right and whose keys fit meets its check; and where the check holds, the key is
-- a root of the section's polynomial.
use Rattle.std.proofs.Common.{◌≡◌, ℕ, ◌+◌, ◌*◌, ◌%◌, ◌^◌, List, [], ◌∷◌, map, sym, ◌∙◌, ap, arith}
use Rattle.std.proofs.Math.Nat.{add-mod-mod, pow-zero, pow-suc, one-mul}
use Rattle.std.specs.List.{AllByRecursion}
use Rattle.mersenne_field.proofs.FieldLaws.{minus-self, product_check}
use Rattle.mersenne_field.proofs.Flatten.{flatten}
use Rattle.zk_model.specs.Field.{prime, ◌+ₚ◌, ◌-ₚ◌, ◌*ₚ◌}
use Rattle.zk_model.specs.Polynomial.{power_sum, value_at, IsRoot}
use Rattle.zk_model.specs.Mac.{Pair, fitting_key}
use Rattle.zk_model.specs.Check.{Triple, KeyTriple, constant_part, linear_part, key_part, product_error, weighted_sum, honest_sums, section_left, section_right, key_polynomial, error_polynomial, opening_right, opening_polynomial}

-- ---- one product

-- the keys that fit a product's pairs
abbrev pub fitting_triple : ℕ → Triple → KeyTriple
fitting_triple key t = record { a = fitting_key key t.a; b = fitting_key key t.b; c = fitting_key key t.c }

key_part_is : (key : ℕ) (t : Triple) →
    key_part key (fitting_triple key t) ≡ constant_part t +ₚ linear_part t *ₚ key +ₚ product_error t *ₚ (key *ₚ key)
key_part_is key t = product_check key t.a.x t.a.m t.b.x t.b.m t.c.x t.c.m

-- ---- a section

-- one product more, with its weight
one_more : (key w part sum a0 a1 e s0 s1 s2 : ℕ) → part ≡ a0 +ₚ a1 *ₚ key +ₚ e *ₚ (key *ₚ key)
    → sum % prime ≡ (s0 + s1 * key + s2 * (key * key)) % prime
    → (part * w + sum) % prime ≡ (a0 * w + s0 + (a1 * w + s1) * key + (e * w + s2) * (key * key)) % prime
one_more key w part sum a0 a1 e s0 s1 s2 is sums =
    sym (add-mod-mod (part * w) sum prime) ∙ (λ i. (is i * w + sums i) % prime) ∙ whole key w a0 a1 e s0 s1 s2
  where
    whole : (key w a0 a1 e s0 s1 s2 : ℕ)
        → ((a0 +ₚ a1 *ₚ key +ₚ e *ₚ (key *ₚ key)) * w + (s0 + s1 * key + s2 * (key * key)) % prime) % prime
        ≡ (a0 * w + s0 + (a1 * w + s1) * key + (e * w + s2) * (key * key)) % prime
    whole key w a0 a1 e s0 s1 s2 = simp flatten (omega arith)

-- the weighted sums of the key's parts, of the constant parts, of the linear parts and of the errors
key_parts_sum : (key v i : ℕ) (ts : List Triple) → power_sum v i (map (key_part key) (map (fitting_triple key) ts)) % prime
    ≡ (power_sum v i (map constant_part ts) + power_sum v i (map linear_part ts) * key + power_sum v i (map product_error ts) * (key * key)) % prime
key_parts_sum key v i [] = ap (λ n. n % prime) none
  where
    none : 0 ≡ 0 + 0 * key + 0 * (key * key)
    none = omega arith
key_parts_sum key v i (t ∷ ts) =
    one_more key (v ^ i) (key_part key (fitting_triple key t)) (power_sum v (i + 1) (map (key_part key) (map (fitting_triple key) ts)))
    (constant_part t) (linear_part t) (product_error t)
    (power_sum v (i + 1) (map constant_part ts)) (power_sum v (i + 1) (map linear_part ts)) (power_sum v (i + 1) (map product_error ts))
    (key_part_is key t) (key_parts_sum key v (i + 1) ts)

-- both sides of a section's check: the left one is the honest right one, and the errors times the key's square
pub section_left_is : (key challenge : ℕ) (ts : List Triple) (mask : Pair) →
    section_left key challenge (map (fitting_triple key) ts) (fitting_key key mask)
    ≡ section_right key (honest_sums challenge ts mask) +ₚ weighted_sum challenge (map product_error ts) *ₚ (key *ₚ key)
section_left_is key challenge ts mask =
    ap (λ n. n +ₚ fitting_key key mask) (key_parts_sum key challenge 1 ts)
    ∙ whole key (power_sum challenge 1 (map constant_part ts)) (power_sum challenge 1 (map linear_part ts))
    (power_sum challenge 1 (map product_error ts)) mask.m mask.x
  where
    whole : (key s0 s1 s2 m x : ℕ) → (s0 + s1 * key + s2 * (key * key)) % prime +ₚ (m +ₚ x *ₚ key)
        ≡ s0 % prime +ₚ m +ₚ (s1 % prime +ₚ x) *ₚ key +ₚ s2 % prime *ₚ (key *ₚ key)
    whole key s0 s1 s2 m x = simp flatten (omega arith)

no_errors : (v i : ℕ) (ts : List Triple) → AllByRecursion (λ t. product_error t ≡ 0) ts → power_sum v i (map product_error ts) ≡ 0
no_errors v i [] none = λ i. 0
no_errors v i (t ∷ ts) none =
    let rest = no_errors v (i + 1) ts none.1 in
    ap (λ n. n * v ^ i + power_sum v (i + 1) (map product_error ts)) none.0 ∙ omega (arith, rest)

-- where every product is right, honest sums meet the check
pub honest_section_holds : (key challenge : ℕ) (ts : List Triple) (mask : Pair) → AllByRecursion (λ t. product_error t ≡ 0) ts →
    section_left key challenge (map (fitting_triple key) ts) (fitting_key key mask) ≡ section_right key (honest_sums challenge ts mask)
honest_section_holds key challenge ts mask none =
    section_left_is key challenge ts mask
    ∙ ap (λ n. section_right key (honest_sums challenge ts mask) +ₚ n % prime *ₚ (key *ₚ key)) (no_errors challenge 1 ts none)
    ∙ whole key (honest_sums challenge ts mask).0 (honest_sums challenge ts mask).1
  where
    whole : (key u v : ℕ) → u +ₚ v *ₚ key +ₚ 0 % prime *ₚ (key *ₚ key) ≡ u +ₚ v *ₚ key
    whole key u v = simp flatten (omega arith)

-- ---- polynomials

-- the value of three coefficients
three_terms : (a b c key : ℕ) → value_at (a ∷ b ∷ c ∷ []) key ≡ a +ₚ b *ₚ key +ₚ c *ₚ (key *ₚ key)
three_terms a b c key = ap (λ n. n % prime) (plain a b c key) ∙ whole a b c key
  where
    plain : (a b c key : ℕ) → power_sum key 0 (a ∷ b ∷ c ∷ []) ≡ a + b * key + c * (key * key)
    plain a b c key =
        let none : key ^ 0 ≡ 1 = pow-zero key in
        let one : key ^ 1 ≡ key = pow-suc key 0 ∙ ap (λ n. n * key) none ∙ one-mul key in
        let square : key ^ 2 ≡ key * key = pow-suc key 1 ∙ ap (λ n. n * key) one in
        rw (square, one, none) (omega arith)

    whole : (a b c key : ℕ) → (a + b * key + c * (key * key)) % prime ≡ a +ₚ b *ₚ key +ₚ c *ₚ (key *ₚ key)
    whole a b c key = simp flatten (omega arith)

-- and of two
two_terms : (a b key : ℕ) → value_at (a ∷ b ∷ []) key ≡ a +ₚ b *ₚ key
two_terms a b key = ap (λ n. n % prime) (plain a b key) ∙ whole a b key
  where
    plain : (a b key : ℕ) → power_sum key 0 (a ∷ b ∷ []) ≡ a + b * key
    plain a b key =
        let none : key ^ 0 ≡ 1 = pow-zero key in
        let one : key ^ 1 ≡ key = pow-suc key 0 ∙ ap (λ n. n * key) none ∙ one-mul key in
        rw (one, none) (omega arith)

    whole : (a b key : ℕ) → (a + b * key) % prime ≡ a +ₚ b *ₚ key
    whole a b key = simp flatten (omega arith)

-- where a section meets the check with whatever sums were sent, the key is a root of its polynomial
pub key_is_root : (key challenge : ℕ) (ts : List Triple) (mask : Pair) (sent : ℕ × ℕ) →
    section_left key challenge (map (fitting_triple key) ts) (fitting_key key mask) ≡ section_right key sent →
    IsRoot (key_polynomial challenge ts mask sent) key
key_is_root key challenge ts mask sent holds =
    three_terms (honest.0 -ₚ sent.0) (honest.1 -ₚ sent.1) (value_at (error_polynomial ts) challenge) key
    ∙ ap (λ n. honest.0 -ₚ sent.0 +ₚ (honest.1 -ₚ sent.1) *ₚ key +ₚ n *ₚ (key *ₚ key)) errors
    ∙ whole key honest.0 honest.1 (weighted_sum challenge (map product_error ts)) sent.0 sent.1
    ∙ ap (λ n. n -ₚ section_right key sent) (sym (section_left_is key challenge ts mask) ∙ holds)
    ∙ minus-self (section_right key sent)
  where
    honest : ℕ × ℕ
    honest = honest_sums challenge ts mask

    errors : value_at (error_polynomial ts) challenge ≡ weighted_sum challenge (map product_error ts)
    errors = ap (λ n. n % prime) (omega arith)

    whole : (key u v e s t : ℕ) → u -ₚ s +ₚ (v -ₚ t) *ₚ key +ₚ e *ₚ (key *ₚ key)
        ≡ u +ₚ v *ₚ key +ₚ e *ₚ (key *ₚ key) -ₚ (s +ₚ t *ₚ key)
    whole key u v e s t = simp flatten (omega arith)

-- where an output meets its check with whatever MAC was sent, the key is a root of its polynomial
pub key_is_opening_root : (key : ℕ) (pair : Pair) (mac : ℕ) (claimed : ℕ) → fitting_key key pair ≡ opening_right key mac claimed →
    IsRoot (opening_polynomial pair mac claimed) key
key_is_opening_root key pair mac claimed holds =
    two_terms (pair.m -ₚ mac) (pair.x -ₚ claimed) key
    ∙ whole key pair.m pair.x mac claimed
    ∙ ap (λ n. n -ₚ opening_right key mac claimed) holds ∙ minus-self (opening_right key mac claimed)
  where
    whole : (key m x s y : ℕ) → m -ₚ s +ₚ (x -ₚ y) *ₚ key ≡ m +ₚ x *ₚ key -ₚ (s +ₚ y *ₚ key)
    whole key m x s y = simp flatten (omega arith)
