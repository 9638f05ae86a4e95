-- The leaves of a tree are keys that fit its noise vector.
use Rattle.std.proofs.Common.{◌≡◌, ◌≢◌, ℕ, zero, suc, ◌+◌, ◌%◌, ◌^◌, ◌<◌, ◌≤◌, ◌⊎◌, inl, inr, Bool, nat_eq, List, ◌∷◌, map, take, if◌then◌else◌, refl, sym, ◌∙◌, ap, arith, sum, mod-eq_of_lt, ne_eqb, eq-eqb}
use Rattle.std.specs.List.{range_with_len, enumerate_from}
use Rattle.std.specs.Int.{w64, from_le_bytes}
use Rattle.std.proofs.lemmas.List.Sums.{sum_by-cons}
use Rattle.mersenne_field.proofs.Flatten.{flatten}
use Rattle.mersenne_field.proofs.FieldLaws.{reduced}
use Rattle.tree_laws.proofs.Ancestors.{same_or_not}
use Rattle.tree_laws.proofs.Grown.{leaves_without}
use Rattle.zk_model.specs.Field.{prime, IsElement, ◌+ₚ◌, ◌-ₚ◌, ◌*ₚ◌}
use Rattle.zk_model.specs.Mac.{Pair, fitting_key}
use Rattle.zk_model.specs.Tree.{leaf_at, tree_leaves, node_at, path_to}
use Rattle.zk_model.specs.Extension.{leaf_offset_of, noise_vector}

-- ---- the hidden place

-- over plain numbers: the MAC less what was sent and the other leaves, and the corrected value times the key, are the
-- hidden leaf
hidden_sum : (key d bx bm rest v : ℕ)
    → bm -ₚ (bm +ₚ bx *ₚ key +ₚ d *ₚ key -ₚ (rest + v)) -ₚ rest +ₚ (bx +ₚ d) *ₚ key ≡ v % prime
hidden_sum key d bx bm rest v = simp flatten (omega arith)

-- what stands at the hidden place of a noise vector
abbrev special_pair : Pair → ℕ → ℕ → ℕ → Pair
special_pair base d sent rest = record { x = base.x +ₚ d; m = base.m -ₚ sent -ₚ rest }

-- and its key is the hidden leaf
hidden_fits : (key d : ℕ) (base : Pair) (rest all v : ℕ) → IsElement v → rest + v ≡ all
    → fitting_key key (special_pair base d (fitting_key key base +ₚ d *ₚ key -ₚ all) rest) ≡ v
hidden_fits key d base rest all v element whole =
    ap (λ n. fitting_key key (special_pair base d (fitting_key key base +ₚ d *ₚ key -ₚ n) rest)) (sym whole)
    ∙ hidden_sum key d base.x base.m rest v ∙ mod-eq_of_lt element

-- ---- all places

-- the sum of all, and of all but one
sum_without : (f : ℕ → ℕ) (p a n : ℕ) → a ≤ p → p < a + n
    → sum (map (λ j. if nat_eq j p then 0 else f j) (range_with_len a n)) + f p ≡ sum (map f (range_with_len a n))
sum_without f p a zero low high = absurd (omega (arith, low, high))
sum_without f p a (suc n) low high = by_first (same_or_not a p) (λ not_it. sum_without f p (a + 1) n (past low not_it) (omega (arith, high)))
  where
    past : a ≤ p → a ≢ p → a + 1 ≤ p
    past at_least not_it = omega (arith, at_least, not_it)

    but : ℕ → ℕ
    but j = if nat_eq j p then 0 else f j

    rest : List ℕ
    rest = range_with_len (a + 1) n

    at_first : (c : ℕ) (list : List ℕ) → sum (c ∷ list) ≡ c + sum list
    at_first c list = sum_by-cons (λ x. x) c list

    all_after : (b m : ℕ) → p < b → map but (range_with_len b m) ≡ map f (range_with_len b m)
    all_after b zero beyond = refl
    all_after b (suc m) beyond =
        λ i. ap (λ (c : Bool). if c then 0 else f b) (ne_eqb b p (λ e. omega (arith, e, beyond))) i ∷ all_after (b + 1) m (omega (arith, beyond)) i

    by_first : (a ≡ p) ⊎ (a ≢ p) → (a ≢ p → sum (map but rest) + f p ≡ sum (map f rest))
        → sum (but a ∷ map but rest) + f p ≡ sum (f a ∷ map f rest)
    by_first (inl is) later =
        let none : but a ≡ 0 = ap (λ (b : Bool). if b then 0 else f a) (eq-eqb a p is) in
        let left = at_first (but a) (map but rest) in
        let right = at_first (f a) (map f rest) in
        let here : f a ≡ f p = ap f is in
        let after : sum (map but rest) ≡ sum (map f rest) = ap sum (all_after (a + 1) n (omega (arith, is))) in
        omega (arith, none, left, right, here, after)
    by_first (inr not_it) later =
        let some : but a ≡ f a = ap (λ (b : Bool). if b then 0 else f a) (ne_eqb a p not_it) in
        let left = at_first (but a) (map but rest) in
        let right = at_first (f a) (map f rest) in
        let after = later not_it in
        omega (arith, some, left, right, after)

-- each leaf is the key of what stands at its place
places_fit : (key p : ℕ) (f : ℕ → ℕ) (hidden : Pair) (a n : ℕ) → ((j : ℕ) → IsElement (f j)) → fitting_key key hidden ≡ f p
    → map f (range_with_len a n)
    ≡ map (fitting_key key) (map (λ entry. if nat_eq entry.0 p then hidden else record { x = 0; m = entry.1 })
    (enumerate_from a (map (λ j. if nat_eq j p then 0 else f j) (range_with_len a n))))
places_fit key p f hidden a zero elements fit = refl
places_fit key p f hidden a (suc n) elements fit = λ i. first (same_or_not a p) i ∷ places_fit key p f hidden (a + 1) n elements fit i
  where
    at : Bool → Pair
    at b = if b then hidden else record { x = 0; m = if b then 0 else f a }

    none : (v : ℕ) → IsElement v → v ≡ fitting_key key (record { x = 0; m = v })
    none v element = omega (arith, element)

    first : (a ≡ p) ⊎ (a ≢ p) → f a ≡ fitting_key key (at (nat_eq a p))
    first (inl is) = ap f is ∙ sym fit ∙ ap (λ b. fitting_key key (at b)) (sym (eq-eqb a p is))
    first (inr not_it) = none (f a) (elements a) ∙ ap (λ b. fitting_key key (at b)) (sym (ne_eqb a p not_it))

-- so the leaves are keys of the noise vector
pub noise_keys_fit : (key d alpha h : ℕ) (base : Pair) (root : List ℕ) → alpha < 2 ^ h
    → tree_leaves root h ≡ map (fitting_key key)
    (noise_vector alpha base d (leaf_offset_of key (fitting_key key base) d (tree_leaves root h)) (leaves_without alpha root h))
noise_keys_fit key d alpha h base root inside =
    places_fit key alpha (leaf_at root h)
    (special_pair base d (leaf_offset_of key (fitting_key key base) d (tree_leaves root h)) (sum (leaves_without alpha root h)))
    0 (2 ^ h) elements
    (hidden_fits key d base (sum (leaves_without alpha root h)) (sum (tree_leaves root h)) (leaf_at root h alpha) (elements alpha)
    (sum_without (leaf_at root h) alpha 0 (2 ^ h) (omega arith) (omega (arith, inside))))
  where
    elements : (j : ℕ) → IsElement (leaf_at root h j)
    elements j = reduced (from_le_bytes w64 (take 8 (node_at root (path_to h j))) % 2 ^ 61)
