-- Values and MACs, one by one.
use Rattle.std.proofs.Common.{◌≡◌, ℕ, zero, suc, ◌+◌, ◌<◌, ◌≤◌, All, List, [], ◌∷◌, length, take, get_or, refl, ap, sym, ◌∙◌, arith, subst}
use Rattle.std.specs.Prelude.{Some, slice_get, slice_index}
use Rattle.std.proofs.lemmas.List.{length-map, get_or-map}
use Rattle.std.proofs.Math.Seq.{take-length}
use Rattle.std.proofs.lemmas.Option.{slice_get_within}
use Rattle.std.proofs.lemmas.List.Elements.{All-head, All-tail}
use Rattle.mersenne_field.proofs.FieldLaws.{plus-minus}
use Rattle.zk_model.specs.Field.{IsElement, ◌+ₚ◌, ◌-ₚ◌}
use Rattle.zk_model.specs.HonestProver.{honest_corrections}
use Rattle.zk_model.specs.Mac.{Pair, pair_at, values_of, macs_of, corrected_pairs}
use Rattle.zk_model.specs.declared.Product.{Product}
use Rattle.zk_model.specs.Program.{Program, Carries, AreMade}
use Rattle.zk_model.specs.Check.{ArePairsOf}
use Rattle.field_program.specs.Counts.{unchecked}
use Rattle.field_program.specs.Programs.{IsSmallProgram}
use Rattle.wire_auth.specs.Sides.{joined, pairs_from}
use Rattle.wire_auth.specs.Values.{given_value, given_from}
use Rattle.wire_auth.proofs.Making.{given_at, length-given_from}

-- the pair at a place
pub joined_at : (values macs : List ℕ) (i : ℕ) → i < length values → i < length macs
    → pair_at (joined values macs) i ≡ record { x = slice_index values i; m = slice_index macs i }
joined_at [] macs i below within = elim below [ ]
joined_at (x ∷ values) [] i below within = elim within [ ]
joined_at (x ∷ values) (m ∷ macs) zero below within = refl
joined_at (x ∷ values) (m ∷ macs) (suc i) below within =
    joined_at values macs i (omega (arith, below)) (omega (arith, within))

pub values_of-joined : (values macs : List ℕ) → length values ≤ length macs → values_of (joined values macs) ≡ values
values_of-joined [] macs enough = refl
values_of-joined (x ∷ values) [] enough = elim enough [ ]
values_of-joined (x ∷ values) (m ∷ macs) enough = ap (λ l. x ∷ l) (values_of-joined values macs (omega (arith, enough)))

pub macs_of-joined : (values macs : List ℕ) → macs_of (joined values macs) ≡ take (length values) macs
macs_of-joined [] macs = none macs
  where
    none : (macs : List ℕ) → [] ≡ take 0 macs
    none [] = refl
    none (m ∷ macs) = refl
macs_of-joined (x ∷ values) [] = refl
macs_of-joined (x ∷ values) (m ∷ macs) = ap (λ l. m ∷ l) (macs_of-joined values macs)

-- these are the dealt pairs, corrected to the values
pub joined_is_corrected : (values : List ℕ) (dealt : List Pair) → All IsElement values
    → joined values (macs_of dealt) ≡ corrected_pairs dealt (honest_corrections values dealt)
joined_is_corrected [] dealt elements = none dealt
  where
    none : (dealt : List Pair) → [] ≡ corrected_pairs dealt []
    none [] = refl
    none (pair ∷ dealt) = refl
joined_is_corrected (x ∷ values) [] elements = refl
joined_is_corrected (x ∷ values) (pair ∷ dealt) elements =
    let value = plus-minus x pair.x (All-head IsElement x values elements) in
    λ i. record { x = value_is i; m = pair.m } ∷ joined_is_corrected values dealt (All-tail IsElement x values elements) i
  where
    value_is : x ≡ pair.x +ₚ (x -ₚ pair.x)
    value_is = sym (plus-minus x pair.x (All-head IsElement x values elements))

-- the pair of the given value of product i: its value, and the MAC of the dealt pair
pub given_pair_at : (program : Program) (values : List ℕ) (dealt : List Pair) (i : ℕ) (product : Product) (pair : Pair) → IsSmallProgram program
    → slice_get program.products i ≡ Some product → product.c < length dealt → pair ≡ get_or dealt product.c pair
    → pair_at (joined (given_from program values) (macs_of dealt)) product.c
    ≡ record { x = given_value program values product; m = pair.m }
given_pair_at program values dealt i product pair held at within pair_is =
    joined_at (given_from program values) (macs_of dealt) product.c
    (omega (arith, slice_get_within program.products i product at, held.numbered i product at, held.counted, length-given_from program values held.counted))
    (omega (arith, within, length-map dealt (λ (p : Pair). p.m)))
    ∙ (λ j. record { x = given_at program values i product.c product at (held.numbered i product at) j; m = mac j })
  where
    mac : slice_index (macs_of dealt) product.c ≡ pair.m
    mac = get_or-map (λ (p : Pair). p.m) dealt product.c pair 0 within ∙ ap (λ (p : Pair). p.m) (sym pair_is)

-- ---- the pairs of all wires

-- the values of the given pairs
pub given_values : (program : Program) (values : List ℕ) (dealt : List Pair) → length program.products + unchecked program ≡ program.givens
    → program.givens ≤ length dealt → values_of (joined (given_from program values) (macs_of dealt)) ≡ given_from program values
given_values program values dealt counted enough =
    values_of-joined (given_from program values) (macs_of dealt)
    (omega (arith, length-given_from program values counted, enough, length-map dealt (λ (p : Pair). p.m)))

-- and of the wires
wire_values : (values macs : List ℕ) → length values ≡ length macs → values_of (joined values macs) ≡ values
wire_values values macs same = values_of-joined values macs (omega (arith, same))

-- what is made is so as pairs
pub are_made : (program : Program) (public inputs values macs : List ℕ) (dealt : List Pair) → length program.products + unchecked program ≡ program.givens
    → program.givens ≤ length dealt → length values ≡ length macs → AreMade program public inputs values (given_from program values)
    → AreMade program public inputs (values_of (joined values macs)) (values_of (joined (given_from program values) (macs_of dealt)))
are_made program public inputs values macs dealt counted enough same made =
    subst (λ (l : List ℕ). AreMade program public inputs (values_of (joined values macs)) l) (sym (given_values program values dealt counted enough))
    (subst (λ (l : List ℕ). AreMade program public inputs l (given_from program values)) (sym (wire_values values macs same)) made)

-- values and MACs are pairs
pub are_pairs : (program : Program) (public inputs values macs : List ℕ) (dealt : List Pair) → length program.products + unchecked program ≡ program.givens
    → program.givens ≤ length dealt → length values ≡ length macs → AreMade program public inputs values (given_from program values)
    → Carries 0 program public (take program.givens (macs_of dealt)) macs → ArePairsOf program public (pairs_from program values dealt macs)
are_pairs program public inputs values macs dealt counted enough same made carried = record {
  values = (are_made program public inputs values macs dealt counted enough same made).carried;
  macs = subst (λ (l : List ℕ). Carries 0 program public l (macs_of (joined values macs))) (sym given_macs)
      (subst (Carries 0 program public (take program.givens (macs_of dealt))) (sym wire_macs) carried);
}
  where
    given_macs : macs_of (joined (given_from program values) (macs_of dealt)) ≡ take program.givens (macs_of dealt)
    given_macs = macs_of-joined (given_from program values) (macs_of dealt)
        ∙ ap (λ n. take n (macs_of dealt)) (length-given_from program values counted)

    wire_macs : macs_of (joined values macs) ≡ macs
    wire_macs = macs_of-joined values macs ∙ ap (λ n. take n macs) same ∙ take-length macs
