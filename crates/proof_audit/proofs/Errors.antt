-- The errors of a section's products.
use Rattle.std.proofs.Common.{◌≡◌, ℕ, zero, suc, ◌+◌, ◌-◌, ◌<◌, ◌≤◌, List, [], ◌∷◌, ◌++◌, map, take, drop, length, get_or, min, refl, sym, ◌∙◌, ap, subst, arith}
use Rattle.std.specs.Prelude.{Option, Some, slice_get, slice_index}
use Rattle.std.proofs.lemmas.List.{length-map, length-drop, length-take, get_or-map, get_or-drop, get_or-take, map-append, take_min}
use Rattle.std.proofs.lemmas.List.Elements.{All-append}
use Rattle.std.proofs.lemmas.Option.{slice_get-get_or}
use Rattle.zk_model.specs.Field.{◌*ₚ◌, ◌-ₚ◌}
use Rattle.zk_model.specs.Mac.{Pair, pair_at}
use Rattle.zk_model.specs.Check.{WirePairs, Triple, KeyTriple, key_triple, error_polynomial, product_error, product_triple}
use Rattle.zk_model.specs.Polynomial.{IsZero}
use Rattle.zk_model.specs.Program.{Program}
use Rattle.zk_model.specs.declared.Product.{Product}
use Rattle.wire_auth.specs.Sides.{VerifierSide, joined}
use Rattle.proof_audit.specs.SeenWires.{joined_pairs, AreSideBySide}
use Rattle.proof_audit.proofs.Wires.{joined_at, product_more}

-- so many products from this one on
abbrev pub seen_triples : Program → WirePairs → ℕ → ℕ → List Triple
seen_triples program pairs first count = map (product_triple pairs) (take count (drop first program.products))

-- the error of product i
abbrev pub IsErrorOf : Program → WirePairs → ℕ → ℕ → Type 0
IsErrorOf program pairs i error =
    (product : Product) → slice_get program.products i ≡ Some product → error ≡ product_error (product_triple pairs product)

none : Product
none = record { a = 0; b = 0; c = 0 }

one_zero : (error : ℕ) → error ≡ 0 → IsZero (error ∷ [])
one_zero error is zero d below = is
one_zero error is (suc k) d below = absurd (omega (arith, below))

-- one product more is right
pub errors_more : (program : Program) (pairs : WirePairs) (first i error : ℕ) → first ≤ i → i < length program.products
    → IsErrorOf program pairs i error → error ≡ 0 → IsZero (error_polynomial (seen_triples program pairs first (i - first)))
    → IsZero (error_polynomial (seen_triples program pairs first (i + 1 - first)))
errors_more program pairs first i error behind below of right before =
    subst IsZero
    ((λ j. 0 ∷ sym (map-append product_error (seen_triples program pairs first (i - first)) (triple ∷ [])) j) ∙ ap error_polynomial more)
    (All-append (λ a. a ≡ 0) (error_polynomial (seen_triples program pairs first (i - first))) (product_error triple ∷ []) before
    (one_zero (product_error triple) (sym (of product stands) ∙ right)))
  where
    product : Product
    product = get_or program.products i none

    triple : Triple
    triple = product_triple pairs product

    stands : slice_get program.products i ≡ Some product
    stands = slice_get-get_or program.products i none below

    more : seen_triples program pairs first (i - first) ++ triple ∷ [] ≡ seen_triples program pairs first (i + 1 - first)
    more = product_more program pairs first i (seen_triples program pairs first (i - first)) (seen_triples program pairs first (i - first) ++ triple ∷ []) triple
        behind below refl (λ other is. ap (λ o. product_triple pairs (some_of o)) (sym stands ∙ is)) refl
      where
        some_of : Option Product → Product
        some_of (Some p) = p
        some_of other = none

-- a product that is not right is one of the section's
pub errors_fail : (program : Program) (pairs : WirePairs) (first i count error : ℕ) → first ≤ i → i < length program.products → i < first + count
    → IsErrorOf program pairs i error → ¬ (error ≡ 0) → ¬ IsZero (error_polynomial (seen_triples program pairs first count))
errors_fail program pairs first i count error behind below inside of wrong zeros = wrong (value ∙ zeros (suc (i - first)) 0 (omega (arith, there, counted)))
  where
    rest : List Product
    rest = drop first program.products

    taken : length (take count rest) ≡ min count (length rest)
    taken = length-take count rest

    there : i - first < length (take count rest)
    there = omega (arith, behind, below, inside, taken, length-drop first program.products)

    counted : length (map product_error (seen_triples program pairs first count)) ≡ length (take count rest)
    counted = length-map (seen_triples program pairs first count) product_error ∙ length-map (take count rest) (product_triple pairs)

    at : get_or (take count rest) (i - first) none ≡ get_or program.products i none
    at = get_or-take count rest (i - first) none (omega (arith, behind, inside))
        ∙ get_or-drop first program.products (i - first) none ∙ ap (λ n. get_or program.products n none) (omega (arith, behind))

    value : error ≡ get_or (map product_error (seen_triples program pairs first count)) (i - first) 0
    value = of (get_or program.products i none) (slice_get-get_or program.products i none below)
        ∙ ap (λ p. product_error (product_triple pairs p)) (sym at)
        ∙ sym (get_or-map (λ p. product_error (product_triple pairs p)) (take count rest) (i - first) none 0 there)
        ∙ ap (λ l. get_or l (i - first) 0) (sym (map_map (take count rest)))
      where
        map_map : (ps : List Product) → map product_error (map (product_triple pairs) ps) ≡ map (λ p. product_error (product_triple pairs p)) ps
        map_map [] = refl
        map_map (p ∷ ps) = ap (λ l. product_error (product_triple pairs p) ∷ l) (map_map ps)

-- every product of the section has been seen
pub errors_whole : (program : Program) (pairs : WirePairs) (first count length_of : ℕ) → count ≡ min length_of (length program.products - first)
    → seen_triples program pairs first count ≡ seen_triples program pairs first length_of
errors_whole program pairs first count length_of is =
    ap (map (product_triple pairs))
    (ap (λ n. take n (drop first program.products)) (is ∙ ap (min length_of) (sym (length-drop first program.products)))
    ∙ take_min length_of (drop first program.products))

-- the values alone tell the error
pub error_joined : (values macs : VerifierSide) (v : KeyTriple) (product : Product) → AreSideBySide values macs → v ≡ key_triple values.keys product
    → v.a *ₚ v.b -ₚ v.c ≡ product_error (product_triple (joined_pairs values.keys macs.keys) product)
error_joined values macs v product side is = λ j.
    (x_is product.a values.keys.wires macs.keys.wires v.a (ap (λ (t : KeyTriple). t.a) is) side.wires j
    *ₚ x_is product.b values.keys.wires macs.keys.wires v.b (ap (λ (t : KeyTriple). t.b) is) side.wires j)
    -ₚ x_is product.c values.keys.given macs.keys.given v.c (ap (λ (t : KeyTriple). t.c) is) side.given j
  where
    x_is : (i : ℕ) (xs ms : List ℕ) (x : ℕ) → x ≡ slice_index xs i → length xs ≡ length ms → x ≡ (pair_at (joined xs ms) i).x
    x_is i xs ms x at same = at ∙ ap (λ (pair : Pair). pair.x) (joined_at xs ms i same)
