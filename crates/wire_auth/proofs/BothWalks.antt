-- What the walks of both ends give.
use Rattle.std.proofs.Common.{◌≡◌, ℕ, zero, suc, ◌+◌, ◌<◌, ◌≤◌, List, [], ◌∷◌, ◌++◌, map, length, take, take-take, min, get_or, refl, sym, ◌∙◌, ap, arith}
use Rattle.std.specs.Prelude.{Some, slice_get, slice_index}
use Rattle.std.proofs.Math.Nat.{min-eq_right}
use Rattle.std.proofs.Math.Seq.{take-add}
use Rattle.std.proofs.lemmas.List.{length-map, get_or-map, get_or-take, get_or_default, length-take-le, take-map}
use Rattle.std.proofs.lemmas.Option.{slice_get_within}
use Rattle.zk_model.specs.Field.{◌*ₚ◌}
use Rattle.zk_model.specs.Mac.{Pair, pair_at, macs_of, corrected_key, corrected_keys}
use Rattle.zk_model.specs.Program.{Program, Carries, AreMade}
use Rattle.zk_model.specs.Check.{product_triple, opened_pairs}
use Rattle.zk_model.specs.declared.Product.{Product}
use Rattle.field_program.specs.Programs.{IsSmallProgram}
use Rattle.wire_auth.specs.Values.{wires_made, given_made, given_from, given_value, numbers_carried}
use Rattle.wire_auth.specs.Walks.{side_made}
use Rattle.wire_auth.proofs.Lengths.{counted_keys}
use Rattle.wire_auth.proofs.Joined.{joined_at, given_pair_at}
use Rattle.wire_auth.proofs.Making.{can_be_made, factors_within, made_exist, carried_exist}

-- ---- the lists that walks follow

-- the numbers of the first wires
pub first_carried : (one : ℕ) (program : Program) (public given wires : List ℕ) → Carries one program public given wires
    → take (program.public + program.inputs) wires ≡ map (λ value. value *ₚ one) public ++ take program.inputs given
first_carried one program public given wires carried =
    take-add program.public program.inputs wires ∙ (λ i. carried.constants i ++ carried.inputs i)

-- values, as they are made
pub values_made : (program : Program) (public inputs : List ℕ) → IsSmallProgram program → length public ≡ program.public → length inputs ≡ program.inputs
    → AreMade program public inputs (wires_made program public inputs) (given_from program (wires_made program public inputs))
unfolding given_made
values_made program public inputs held p few = made_exist program public inputs (can_be_made program held) p few

-- the MACs of given values are those of dealt pairs
mac_count : (program : Program) (dealt : List Pair) → program.givens ≤ length dealt → length (take program.givens (macs_of dealt)) ≡ program.givens
mac_count program dealt enough = length-take-le program.givens (macs_of dealt) (omega (arith, enough, length-map dealt (λ (p : Pair). p.m)))

pub macs_made : (program : Program) (public : List ℕ) (dealt : List Pair) → IsSmallProgram program → length public ≡ program.public → program.givens ≤ length dealt
    → Carries 0 program public (take program.givens (macs_of dealt)) (numbers_carried 0 program public (take program.givens (macs_of dealt)))
macs_made program public dealt held p enough =
    carried_exist 0 program public (take program.givens (macs_of dealt)) held.formed p (omega (arith, mac_count program dealt enough, held.formed.inputs))

-- those of the inputs come first
pub first_macs : (program : Program) (dealt : List Pair) → IsSmallProgram program
    → take program.inputs (take program.givens (macs_of dealt)) ≡ macs_of (take program.inputs dealt)
first_macs program dealt held =
    take-take program.inputs program.givens (macs_of dealt) held.formed.inputs ∙ take-map (λ (p : Pair). p.m) program.inputs dealt

-- ---- pairs

wire_pair : (program : Program) (public inputs : List ℕ) (dealt : List Pair) (wire x m : ℕ) → IsSmallProgram program → length public ≡ program.public
    → length inputs ≡ program.inputs → program.givens ≤ length dealt → wire < program.wires → x ≡ slice_index (wires_made program public inputs) wire
    → m ≡ slice_index (numbers_carried 0 program public (take program.givens (macs_of dealt))) wire
    → record { x = x; m = m } ≡ pair_at (side_made program public inputs dealt).pairs.wires wire
wire_pair program public inputs dealt wire x m held p few enough below value mac =
    (λ i. record { x = value i; m = mac i })
    ∙ sym (joined_at (wires_made program public inputs) (numbers_carried 0 program public (take program.givens (macs_of dealt))) wire
    (omega (arith, below, (values_made program public inputs held p few).carried.whole)) (omega (arith, below, (macs_made program public dealt held p enough).whole)))

-- the pairs of a product
pub walked_triple : (program : Program) (public inputs : List ℕ) (dealt : List Pair) (i left right left_mac right_mac value mac : ℕ) (product : Product)
    → IsSmallProgram program → length public ≡ program.public → length inputs ≡ program.inputs → program.givens ≤ length dealt
    → slice_get program.products i ≡ Some product
    → (left ≡ slice_index (wires_made program public inputs) product.a) × (right ≡ slice_index (wires_made program public inputs) product.b)
    → (left_mac ≡ slice_index (numbers_carried 0 program public (take program.givens (macs_of dealt))) product.a)
    × (right_mac ≡ slice_index (numbers_carried 0 program public (take program.givens (macs_of dealt))) product.b)
    → value ≡ given_value program (wires_made program public inputs) product → mac ≡ slice_index (macs_of dealt) product.c
    → record {
      a = record { x = left; m = left_mac };
      b = record { x = right; m = right_mac };
      c = record { x = value; m = mac };
    } ≡ product_triple (side_made program public inputs dealt).pairs product
walked_triple program public inputs dealt i left right left_mac right_mac value mac product held p few enough stands values macs is mac_is =
    λ j. record { a = a_is j; b = b_is j; c = c_is j }
  where
    within : (product.a < program.wires) × (product.b < program.wires)
    within = factors_within program i product held.formed stands

    a_is : record { x = left; m = left_mac } ≡ pair_at (side_made program public inputs dealt).pairs.wires product.a
    a_is = wire_pair program public inputs dealt product.a left left_mac held p few enough within.0 values.0 macs.0

    b_is : record { x = right; m = right_mac } ≡ pair_at (side_made program public inputs dealt).pairs.wires product.b
    b_is = wire_pair program public inputs dealt product.b right right_mac held p few enough within.1 values.1 macs.1

    inside : product.c < length dealt
    inside = omega (arith, slice_get_within program.products i product stands, held.numbered i product stands, held.counted, enough)

    pair : Pair
    pair = get_or dealt product.c (record { x = 0; m = 0 })

    c_is : record { x = value; m = mac } ≡ pair_at (side_made program public inputs dealt).pairs.given product.c
    c_is = (λ j. record { x = is j; m = (mac_is ∙ get_or-map (λ (p : Pair). p.m) dealt product.c (record { x = 0; m = 0 }) 0 inside) j })
        ∙ sym (given_pair_at program (wires_made program public inputs) dealt i product pair held stands inside
        (get_or_default dealt product.c (record { x = 0; m = 0 }) pair inside))

-- an opened pair
pub walked_output : (program : Program) (public inputs : List ℕ) (dealt : List Pair) (o x m : ℕ) → IsSmallProgram program → length public ≡ program.public
    → length inputs ≡ program.inputs → program.givens ≤ length dealt → o < length program.opened → slice_index program.opened o < program.wires
    → x ≡ slice_index (wires_made program public inputs) (slice_index program.opened o)
    → m ≡ slice_index (numbers_carried 0 program public (take program.givens (macs_of dealt))) (slice_index program.opened o)
    → record { x = x; m = m } ≡ pair_at (opened_pairs program (side_made program public inputs dealt).pairs) o
walked_output program public inputs dealt o x m held p few enough below within value mac =
    wire_pair program public inputs dealt (slice_index program.opened o) x m held p few enough within value mac
    ∙ sym (get_or-map (pair_at (side_made program public inputs dealt).pairs.wires) program.opened o 0 (record { x = 0; m = 0 }) below)

-- the MAC of a given value
pub mac_at : (program : Program) (dealt : List Pair) (i mac : ℕ) → i < program.givens → mac ≡ slice_index (macs_of dealt) i
    → mac ≡ slice_index (take program.givens (macs_of dealt)) i
mac_at program dealt i mac below is = is ∙ sym (get_or-take program.givens (macs_of dealt) i 0 below)

-- the last product has been met
pub none_more : (met count : ℕ) → met ≤ count → count ≤ met → met ≡ min (met + 1) count
none_more met count within none = same ∙ sym (min-eq_right (omega (arith, none)))
  where
    same : met ≡ count
    same = omega (arith, within, none)

-- ---- keys

-- the first of corrected keys
pub first_corrected : (n key : ℕ) (keys corrections : List ℕ) → take n (corrected_keys key keys corrections) ≡ corrected_keys key (take n keys) (take n corrections)
first_corrected zero key keys corrections = none (corrected_keys key keys corrections) ∙ sym (ap (λ l. corrected_keys key l (take 0 corrections)) (sym (none keys)))
  where
    none : (l : List ℕ) → take 0 l ≡ []
    none [] = refl
    none (x ∷ l) = refl
first_corrected (suc n) key [] corrections = refl
first_corrected (suc n) key (k ∷ keys) [] = refl
first_corrected (suc n) key (k ∷ keys) (c ∷ corrections) = ap (λ l. corrected_key key k c ∷ l) (first_corrected n key keys corrections)

-- corrected keys go along the steps
pub keys_carried : (key : ℕ) (program : Program) (public keys corrections : List ℕ) → IsSmallProgram program → length public ≡ program.public
    → program.givens ≤ length keys → length corrections ≡ program.givens
    → Carries key program public (corrected_keys key keys corrections) (numbers_carried key program public (corrected_keys key keys corrections))
keys_carried key program public keys corrections held p enough each =
    let count = counted_keys key keys corrections (corrected_keys key keys corrections) (omega (arith, each, enough)) refl in
    carried_exist key program public (corrected_keys key keys corrections) held.formed p (omega (arith, count, each, held.formed.inputs))

-- a corrected key
pub key_at : (key : ℕ) (keys corrections : List ℕ) (i : ℕ) → i < length keys → i < length corrections
    → slice_index (corrected_keys key keys corrections) i ≡ corrected_key key (slice_index keys i) (slice_index corrections i)
key_at key [] corrections i below within = absurd (omega (arith, below))
key_at key (k ∷ keys) [] i below within = absurd (omega (arith, within))
key_at key (k ∷ keys) (c ∷ corrections) zero below within = refl
key_at key (k ∷ keys) (c ∷ corrections) (suc i) below within = key_at key keys corrections i (omega (arith, below)) (omega (arith, within))
