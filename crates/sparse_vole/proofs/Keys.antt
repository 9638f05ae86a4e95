-- The verifier's leaves as keys of the prover's noise vector.
use Rattle.std.proofs.Common.{◌≡◌, ◌≢◌, ℕ, ◌+◌, ◌%◌, ◌<◌, Bool, true, false, nat_eq, List, map, length, get_or, set, sum, if◌then◌else◌, get_or-set_other, refl, sym, ◌∙◌, ap, arith, mod-eq_of_lt, eq-eqb}
use Rattle.std.specs.Prelude.{All}
use Rattle.std.specs.List.{enumerate_from}
use Rattle.std.proofs.lemmas.List.{ext_get_or, get_or-map, length-map, length-set}
use Rattle.std.proofs.lemmas.List.FromFn.{length-enumerate_from, get_or-enumerate_from}
use Rattle.std.proofs.lemmas.Bool.{eqb-true}
use Rattle.mersenne_field.proofs.Flatten.{flatten}
use Rattle.zk_model.specs.Field.{prime, IsElement, ◌+ₚ◌, ◌-ₚ◌, ◌*ₚ◌}
use Rattle.zk_model.specs.Mac.{Pair, fitting_key}
use Rattle.zk_model.specs.Extension.{leaf_offset_of}
use Rattle.sparse_vole.specs.Noise.{entry_at}
use Rattle.sparse_vole.specs.Laws.{NoiseKeepsKeys}
use Rattle.sparse_vole.proofs.Sums.{sum_without}

-- over plain numbers: the MAC less the answer and the other leaves, and the corrected value times the key, are the leaf
hidden_sum : (key d x m rest v : ℕ)
    → m -ₚ (m +ₚ x *ₚ key +ₚ d *ₚ key -ₚ (rest + v)) -ₚ rest +ₚ (x +ₚ d) *ₚ key ≡ v % prime
hidden_sum key d x m rest v = simp flatten (omega arith)

-- what stands at the hidden place of a noise vector
abbrev hidden_pair : Pair → ℕ → ℕ → ℕ → Pair
hidden_pair base d sent rest = record { x = base.x +ₚ d; m = base.m -ₚ sent -ₚ rest }

-- and its key is the hidden leaf
hidden_fits : (key base_key d : ℕ) (base : Pair) (rest all v : ℕ) → base_key ≡ fitting_key key base → IsElement v → rest + v ≡ all
    → fitting_key key (hidden_pair base d (base_key +ₚ d *ₚ key -ₚ all) rest) ≡ v
hidden_fits key base_key d base rest all v fits element whole =
    (λ i. fitting_key key (hidden_pair base d (fits i +ₚ d *ₚ key -ₚ sym whole i) rest))
    ∙ hidden_sum key d base.x base.m rest v ∙ mod-eq_of_lt element

-- a leaf is the key of 0 under it
plain_fits : (key v : ℕ) → IsElement v → v ≡ fitting_key key (record { x = 0; m = v })
plain_fits key v element = omega (arith, element)

-- each leaf is the key of what stands at its place
leaf_fits : (key alpha : ℕ) (hidden : Pair) (leaves : List ℕ) → All IsElement leaves
    → fitting_key key hidden ≡ get_or leaves alpha 0 → (k : ℕ) → k < length leaves → (here : Bool) → nat_eq k alpha ≡ here
    → get_or leaves k 0 ≡ fitting_key key (if here then hidden else record { x = 0; m = get_or (set leaves alpha 0) k 0 })
leaf_fits key alpha hidden leaves elements fits k below true is = ap (λ j. get_or leaves j 0) (eqb-true k alpha is) ∙ sym fits
leaf_fits key alpha hidden leaves elements fits k below false is =
    plain_fits key (get_or leaves k 0) (elements k 0 below)
    ∙ ap (λ v. fitting_key key (record { x = 0; m = v })) (sym (get_or-set_other leaves alpha k 0 0 apart))
  where
    apart : k ≢ alpha
    apart e = let differ : true ≡ false = sym (eq-eqb k alpha e) ∙ is in absurd (grind (arith, differ))

-- so the leaves are keys of all entries
entries_fit : (key alpha : ℕ) (hidden : Pair) (leaves : List ℕ) → All IsElement leaves
    → fitting_key key hidden ≡ get_or leaves alpha 0
    → leaves ≡ map (fitting_key key) (map (entry_at alpha hidden) (enumerate_from 0 (set leaves alpha 0)))
entries_fit key alpha hidden leaves elements fits = ext_get_or 0 leaves (map (fitting_key key) entries) (sym count) at
  where
    known : List ℕ
    known = set leaves alpha 0

    entries : List Pair
    entries = map (entry_at alpha hidden) (enumerate_from 0 known)

    long : length known ≡ length leaves
    long = length-set leaves alpha 0

    numbered : length (enumerate_from 0 known) ≡ length leaves
    numbered = length-enumerate_from 0 known ∙ long

    count : length (map (fitting_key key) entries) ≡ length leaves
    count = length-map entries (fitting_key key) ∙ length-map (enumerate_from 0 known) (entry_at alpha hidden) ∙ numbered

    from_zero : (j : ℕ) → 0 + j ≡ j
    from_zero j = omega arith

    none : Pair
    none = record { x = 0; m = 0 }

    at : (k : ℕ) → k < length leaves → get_or leaves k 0 ≡ get_or (map (fitting_key key) entries) k 0
    at k below = leaf_fits key alpha hidden leaves elements fits k below (nat_eq k alpha) refl
        ∙ sym (get_or-map (fitting_key key) entries k none 0 (omega (arith, below, numbered, length-map (enumerate_from 0 known) (entry_at alpha hidden)))
        ∙ ap (fitting_key key) (get_or-map (entry_at alpha hidden) (enumerate_from 0 known) k (0, 0) none (omega (arith, below, numbered))
        ∙ ap (entry_at alpha hidden) (get_or-enumerate_from 0 known k (0, 0) (omega (arith, below, long)))
        ∙ ap (λ j. entry_at alpha hidden (j, get_or known k 0)) (from_zero k)))

-- so the leaves are keys of the noise vector
pub noise_keeps_keys : NoiseKeepsKeys
noise_keeps_keys key alpha base_key correction base leaves fits elements below =
    entries_fit key alpha
    (hidden_pair base correction (leaf_offset_of key base_key correction leaves) (sum (set leaves alpha 0))) leaves elements
    (hidden_fits key base_key correction base (sum (set leaves alpha 0)) (sum leaves) (get_or leaves alpha 0) fits
    (elements alpha 0 below) (sum_without leaves alpha below))
