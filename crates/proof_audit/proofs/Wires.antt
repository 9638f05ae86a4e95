-- Values and MACs as pairs.
use Rattle.std.proofs.Common.{drop, ◌++◌, ◌-◌, ◌≡◌, ℕ, zero, suc, ◌+◌, ◌<◌, ◌≤◌, List, [], ◌∷◌, map, zip, take, length, get_or, refl, sym, ◌∙◌, ap, subst, arith, mod-eq_of_lt}
use Rattle.std.specs.Prelude.{All, Some, slice_get, slice_index}
use Rattle.std.proofs.lemmas.List.{length-map, get_or-map, map-append, take_more, length-drop, get_or-drop}
use Rattle.std.proofs.lemmas.Option.{slice_get-get_or}
use Rattle.std.proofs.lemmas.Slice.Zip.{length-zip}
use Rattle.mersenne_field.proofs.Flatten.{flatten}
use Rattle.zk_model.specs.Field.{IsElement, ◌+ₚ◌, ◌*ₚ◌}
use Rattle.zk_model.specs.Mac.{Pair, pair_at, values_of, macs_of, corrected_keys, corrected_pairs}
use Rattle.zk_model.specs.Program.{Program, Carries}
use Rattle.zk_model.specs.Check.{WirePairs, WireKeys, KeyTriple, Triple, ArePairsOf, key_triple, product_triple, opened_pairs}
use Rattle.zk_model.specs.declared.Product.{Product}
use Rattle.wire_auth.specs.Sides.{VerifierSide, joined}
use Rattle.proof_audit.specs.SeenValues.{corrected_values}
use Rattle.proof_audit.specs.SeenWires.{SeenSide, joined_pairs, AreSideBySide}

-- ---- lists of pairs

-- the pair at a place
pub joined_at : (values macs : List ℕ) (i : ℕ) → length values ≡ length macs
    → record { x = slice_index values i; m = slice_index macs i } ≡ pair_at (joined values macs) i
joined_at [] [] i same = refl
joined_at [] (mac ∷ macs) i same = absurd (omega (arith, same))
joined_at (value ∷ values) [] i same = absurd (omega (arith, same))
joined_at (value ∷ values) (mac ∷ macs) zero same = refl
joined_at (value ∷ values) (mac ∷ macs) (suc i) same = joined_at values macs i (omega (arith, same))

pub joined_values : (values macs : List ℕ) → length values ≡ length macs → values_of (joined values macs) ≡ values
joined_values [] [] same = refl
joined_values [] (mac ∷ macs) same = absurd (omega (arith, same))
joined_values (value ∷ values) [] same = absurd (omega (arith, same))
joined_values (value ∷ values) (mac ∷ macs) same = ap (λ l. value ∷ l) (joined_values values macs (omega (arith, same)))

pub joined_macs : (values macs : List ℕ) → length values ≡ length macs → macs_of (joined values macs) ≡ macs
joined_macs [] [] same = refl
joined_macs [] (mac ∷ macs) same = absurd (omega (arith, same))
joined_macs (value ∷ values) [] same = absurd (omega (arith, same))
joined_macs (value ∷ values) (mac ∷ macs) same = ap (λ l. mac ∷ l) (joined_macs values macs (omega (arith, same)))

-- ---- corrections

-- under the key 1 a value is corrected
value_corrected : (x d : ℕ) → x +ₚ d *ₚ 1 ≡ x +ₚ d
value_corrected x d = simp flatten (omega arith)

-- under the key 0 a MAC stays
mac_kept : (m d : ℕ) → IsElement m → m +ₚ d *ₚ 0 ≡ m
mac_kept m d element = simp flatten (omega arith) ∙ mod-eq_of_lt element

pub corrected_joined : (pairs : List Pair) (corrections : List ℕ) → All (λ pair. IsElement pair.x × IsElement pair.m) pairs
    → joined (corrected_keys 1 (values_of pairs) corrections) (corrected_keys 0 (macs_of pairs) corrections) ≡ corrected_pairs pairs corrections
corrected_joined [] corrections elements = refl
corrected_joined (pair ∷ pairs) [] elements = refl
corrected_joined (pair ∷ pairs) (d ∷ corrections) elements = λ i.
    record { x = value_corrected pair.x d i; m = mac_kept pair.m d (elements 0 pair (omega arith)).1 i }
    ∷ corrected_joined pairs corrections (λ k e below. elements (suc k) e (omega (arith, below))) i

-- ---- products

pub triple_joined : (values macs : VerifierSide) (i : ℕ) (v m : KeyTriple) (product : Product) → AreSideBySide values macs
    → ((p : Product) → slice_get values.program.products i ≡ Some p → v ≡ key_triple values.keys p)
    → ((p : Product) → slice_get macs.program.products i ≡ Some p → m ≡ key_triple macs.keys p)
    → slice_get values.program.products i ≡ Some product
    → record { a = record { x = v.a; m = m.a }; b = record { x = v.b; m = m.b }; c = record { x = v.c; m = m.c } }
    ≡ product_triple (joined_pairs values.keys macs.keys) product
triple_joined values macs i v m product side left right stands = λ j. record {
  a = ((λ k. record { x = (first k).a; m = (second k).a }) ∙ joined_at values.keys.wires macs.keys.wires product.a side.wires) j;
  b = ((λ k. record { x = (first k).b; m = (second k).b }) ∙ joined_at values.keys.wires macs.keys.wires product.b side.wires) j;
  c = ((λ k. record { x = (first k).c; m = (second k).c }) ∙ joined_at values.keys.given macs.keys.given product.c side.given) j;
}
  where
    first : v ≡ key_triple values.keys product
    first = left product stands

    second : m ≡ key_triple macs.keys product
    second = right product (ap (λ (p : Program). slice_get p.products i) (sym side.program) ∙ stands)

-- ---- opened wires

pub output_joined : (values macs : VerifierSide) (o v m : ℕ) → AreSideBySide values macs → o < length values.program.opened
    → v ≡ slice_index values.keys.wires (slice_index values.program.opened o) → m ≡ slice_index macs.keys.wires (slice_index macs.program.opened o)
    → record { x = v; m = m } ≡ pair_at (opened_pairs values.program (joined_pairs values.keys macs.keys)) o
output_joined values macs o v m side below left right =
    (λ i. record { x = left i; m = (right ∙ ap (λ (p : Program). slice_index macs.keys.wires (slice_index p.opened o)) (sym side.program)) i })
    ∙ joined_at values.keys.wires macs.keys.wires (slice_index values.program.opened o) side.wires
    ∙ sym (get_or-map (pair_at (joined values.keys.wires macs.keys.wires)) values.program.opened o 0 (record { x = 0; m = 0 }) below)

-- ---- all of it

pub seen_pairs_carry : (program : Program) (public : List ℕ) (values macs : WireKeys) → length values.given ≡ length macs.given
    → length values.wires ≡ length macs.wires
    → Carries 1 program public values.given values.wires → Carries 0 program public macs.given macs.wires
    → ArePairsOf program public (joined_pairs values macs)
seen_pairs_carry program public values macs given wires left right = record {
  values = subst (λ (q : List ℕ × List ℕ). Carries 1 program public q.0 q.1)
      (λ i. (sym (joined_values values.given macs.given given) i, sym (joined_values values.wires macs.wires wires) i)) left;
  macs = subst (λ (q : List ℕ × List ℕ). Carries 0 program public q.0 q.1)
      (λ i. (sym (joined_macs values.given macs.given given) i, sym (joined_macs values.wires macs.wires wires) i)) right;
}

-- as many corrected keys from as many
pub corrected_length : (one other : ℕ) (some others corrections : List ℕ) → length some ≡ length others
    → length (corrected_keys one some corrections) ≡ length (corrected_keys other others corrections)
corrected_length one other some others corrections same =
    let a = length-zip some corrections in
    let b = length-zip others corrections in
    length-map (zip some corrections) _ ∙ omega (arith, a, b, same) ∙ sym (length-map (zip others corrections) _)

-- ---- sections and inputs

-- one product more
pub product_more : (program : Program) (pairs : WirePairs) (first i : ℕ) (before now : List Triple) (triple : Triple) → first ≤ i → i < length program.products
    → before ≡ map (product_triple pairs) (take (i - first) (drop first program.products))
    → ((product : Product) → slice_get program.products i ≡ Some product → triple ≡ product_triple pairs product)
    → now ≡ before ++ triple ∷ []
    → now ≡ map (product_triple pairs) (take (i + 1 - first) (drop first program.products))
product_more program pairs first i before now triple behind below far is pushed =
    pushed ∙ (λ j. far j ++ made j ∷ [])
    ∙ sym (ap (λ n. map (product_triple pairs) (take n rest)) next
    ∙ ap (map (product_triple pairs)) (take_more rest (i - first) none inside)
    ∙ map-append (product_triple pairs) (take (i - first) rest) (get_or rest (i - first) none ∷ []))
  where
    none : Product
    none = record { a = 0; b = 0; c = 0 }

    rest : List Product
    rest = drop first program.products

    next : i + 1 - first ≡ (i - first) + 1
    next = omega (arith, behind)

    inside : i - first < length rest
    inside = omega (arith, behind, below, length-drop first program.products)

    at : get_or rest (i - first) none ≡ get_or program.products i none
    at = get_or-drop first program.products (i - first) none ∙ ap (λ n. get_or program.products n none) (omega (arith, behind))

    made : triple ≡ product_triple pairs (get_or rest (i - first) none)
    made = is (get_or program.products i none) (slice_get-get_or program.products i none below) ∙ ap (product_triple pairs) (sym at)

-- so many products as the program of a side
pub products_of : {n : ℕ} {program : Program} {side other : SeenSide} → n ≡ length program.products → program ≡ side.program → side ≡ other
    → n ≡ length other.program.products
products_of is of same = is ∙ ap (λ (p : Program). length p.products) (of ∙ ap (λ (s : SeenSide). s.program) same)

-- the first values that are corrected
pub first_corrected : (count : ℕ) (pairs : List Pair) (corrections : List ℕ)
    → corrected_values count pairs corrections ≡ take count (values_of (corrected_pairs pairs corrections))
first_corrected zero pairs corrections = refl
first_corrected (suc count) [] corrections = refl
first_corrected (suc count) (pair ∷ pairs) [] = refl
first_corrected (suc count) (pair ∷ pairs) (d ∷ corrections) = ap (λ l. (pair.x +ₚ d) ∷ l) (first_corrected count pairs corrections)
