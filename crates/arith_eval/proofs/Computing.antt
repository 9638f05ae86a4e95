-- One gate's element after another.
use Rattle.std.proofs.Common.{◌≡◌, ◌≢◌, ℕ, ◌+◌, ◌-◌, ◌<◌, ◌≤◌, false, List, ◌++◌, length, take, get_or, replicate, arith, ap, sym, ◌∙◌, refl, set, get_or-set_other, get_or-set_same, subst, length-set, length-take, inl, inr}
use Rattle.std.proofs.Math.Nat.{eq-or-lt_of_le}
use Rattle.std.proofs.lemmas.Bool.{cases_Bool, cases_lt}
use Rattle.std.proofs.Math.Seq.{get_or-append_right}
use Rattle.std.proofs.lemmas.List.{get_or-replicate, get_or_past, length-replicate, take_all, take-set-le}
use Rattle.std.proofs.lemmas.List.Elements.{All-set}
use Rattle.std.proofs.lemmas.Option.{slice_get_within}
use Rattle.std.specs.Prelude.{All, Some, slice_get}
use Rattle.mersenne_field.proofs.FieldLaws.{reduced}
use Rattle.zk_model.specs.Field.{IsElement, ◌+ₚ◌, ◌*ₚ◌, from_word}
use Rattle.zk_model.specs.Arithmetic.{Arith, AreComputed, Computes, IsWellFormed, MayCome, MayRead, MaySet, element_of, is_set}
use Rattle.zk_model.specs.declared.ArithRow.{ArithRow}
use Rattle.zk_model.specs.declared.ArithRow.TheVariants.{Add, Mul, Const, Assert}
use Rattle.arith_laws.proofs.Ordering.{EachRead, OfSet, SetBy, apart, each_read, input_set, reads_set, set_before, set_later}
use Rattle.arith_eval.specs.Answers.{AreFirst, LeavesUnset}
use Rattle.arith_eval.specs.Rows.{IsWithin, elements_after}

-- the wires of a gate are those of its circuit
pub row_within : (circuit : Arith) (before : List ArithRow) (row : ArithRow) → MayCome circuit before row → IsWithin circuit.wires row
row_within circuit before (Add a b out) may = (may.0.0, may.1.0, may.2.0)
row_within circuit before (Mul a b out) may = (may.0.0, may.1.0, may.2.0)
row_within circuit before (Const value out) may = may.1.0
row_within circuit before (Assert a) may = may.0

same_word : (value : ℕ) → IsElement value → from_word value ≡ value
same_word value is = omega (arith, is)

other_element : (elements : List ℕ) (wire other value : ℕ) → other ≢ wire → element_of (set elements wire value) other ≡ element_of elements other
other_element elements wire other value apart = get_or-set_other elements wire other value 0 apart

-- a gate whose wires are others computes as before
kept : (elements : List ℕ) (out value : ℕ) (row : ArithRow) → EachRead (λ w. w ≢ out) row → OfSet (λ w. w ≢ out) row → Computes elements row → Computes (set elements out value) row
kept elements out value (Add a b o) reads sets is =
    other_element elements out o value sets ∙ is ∙ (λ i. sym (other_element elements out a value reads.0) i +ₚ sym (other_element elements out b value reads.1) i)
kept elements out value (Mul a b o) reads sets is =
    other_element elements out o value sets ∙ is ∙ (λ i. sym (other_element elements out a value reads.0) i *ₚ sym (other_element elements out b value reads.1) i)
kept elements out value (Const v o) reads sets is = other_element elements out o value sets ∙ is
kept elements out value (Assert a) reads sets is = tt

-- elements for all wires, the inputs first, that the first n gates compute
pub record AreSoFar (circuit : Arith) (inputs elements : List ℕ) (n : ℕ) : Type 0 where
  pub whole : length elements ≡ circuit.wires
  pub elements_are : All IsElement elements
  pub first : take circuit.inputs elements ≡ inputs
  pub gates : (k : ℕ) (gate : ArithRow) → k < n → slice_get circuit.gates k ≡ Some gate → Computes elements gate
  pub unset : (wire : ℕ) → is_set circuit.inputs (take n circuit.gates) wire ≡ false → element_of elements wire ≡ 0

-- these, and a 0 for each other wire
pub zero_behind : (values elements : List ℕ) (more : ℕ) → ◌≡◌ {A = List ℕ} elements (values ++ replicate more 0) → (wire : ℕ) → length values ≤ wire → element_of elements wire ≡ 0
zero_behind values elements more is wire behind =
    ap (λ l. element_of l wire) is ∙ get_or-append_right values (replicate more 0) wire 0 behind ∙ zero (wire - length values)
  where
    zero : (i : ℕ) → ◌≡◌ {A = ℕ} (get_or (replicate more 0) i 0) 0
    zero i = elim (cases_lt i more) [
      | inl within ↦ get_or-replicate more i 0 0 within
      | inr past ↦ get_or_past (replicate more 0) i 0 (omega (arith, past, length-replicate {A = ℕ} more 0))
    ]

-- a wire that is not set after more gates is not set after fewer
unset_before : (circuit : Arith) (k n wire : ℕ) → k ≤ n → is_set circuit.inputs (take n circuit.gates) wire ≡ false → is_set circuit.inputs (take k circuit.gates) wire ≡ false
unset_before circuit k n wire more off = elim (cases_Bool (is_set circuit.inputs (take k circuit.gates) wire)) [
  | inl on ↦ absurd (apart circuit.inputs (take n circuit.gates) wire wire (set_later circuit k n wire more on) off refl)
  | inr free ↦ free
]

-- before the first gate
pub so_far_first : (circuit : Arith) (elements : List ℕ) → AreFirst (take circuit.inputs elements) circuit.wires elements → AreSoFar circuit (take circuit.inputs elements) elements 0
so_far_first circuit elements are = record {
  whole = are.whole;
  elements_are = are.elements_are;
  first = refl;
  gates = λ k gate less stands. absurd (omega arith);
  unset = λ wire off. are.zero wire (behind wire off);
}
  where
    no_input : (wire : ℕ) → is_set circuit.inputs (take 0 circuit.gates) wire ≡ false → wire < circuit.inputs → ⊥
    no_input wire off input = apart circuit.inputs (take 0 circuit.gates) wire wire (input_set circuit 0 wire input) off refl

    behind : (wire : ℕ) → is_set circuit.inputs (take 0 circuit.gates) wire ≡ false → length (take circuit.inputs elements) ≤ wire
    behind wire off = omega (arith, no_input wire off, length-take circuit.inputs elements)

-- one wire more
one_more : (circuit : Arith) (inputs elements : List ℕ) (n out value : ℕ) (row : ArithRow) → IsWellFormed circuit → slice_get circuit.gates n ≡ Some row → SetBy circuit (n + 1) out → MaySet circuit (take n circuit.gates) out
    → IsElement value → Computes (set elements out value) row → AreSoFar circuit inputs elements n → AreSoFar circuit inputs (set elements out value) (n + 1)
one_more circuit inputs elements n out value row formed stands set_now free is now far = record {
  whole = length-set elements out value ∙ far.whole;
  elements_are = All-set IsElement elements out value is far.elements_are;
  first = take-set-le circuit.inputs elements out value (behind out never) ∙ far.first;
  gates = λ k gate less was. elim (eq-or-lt_of_le (most k less)) [
    | inl same ↦
        let at : slice_get circuit.gates n ≡ Some gate = subst (λ (i : ℕ). slice_get circuit.gates i ≡ Some gate) same was in
        let one : row ≡ gate = found row gate (sym stands ∙ at) in
        subst (λ (g : ArithRow). Computes (set elements out value) g) one now
    | inr before ↦
        kept elements out value gate
        (each_read (MayRead circuit (take k circuit.gates)) (λ w. w ≢ out) gate
        (λ w may. apart circuit.inputs (take n circuit.gates) w out (set_later circuit k n w (omega (arith, before)) may.1) free.1) (reads_set circuit k gate formed was))
        (others gate (set_before circuit k n gate before was)) (far.gates k gate before was)
  ];
  unset = λ wire off.
      other_element elements out wire value (λ same. apart circuit.inputs (take (n + 1) circuit.gates) out wire set_now off (sym same))
      ∙ far.unset wire (unset_before circuit n (n + 1) wire (omega arith) off);
}
  where
    most : (k : ℕ) → k < n + 1 → k ≤ n
    most k less = omega (arith, less)

    found : (a b : ArithRow) → Some a ≡ Some b → a ≡ b
    found a b e = cc

    never : out < circuit.inputs → ⊥
    never input = apart circuit.inputs (take n circuit.gates) out out (input_set circuit n out input) free.1 refl

    behind : (out : ℕ) → (out < circuit.inputs → ⊥) → circuit.inputs ≤ out
    behind out never = omega (arith, never)

    others : (gate : ArithRow) → OfSet (SetBy circuit n) gate → OfSet (λ w. w ≢ out) gate
    others (Add a b o) on = apart circuit.inputs (take n circuit.gates) o out on free.1
    others (Mul a b o) on = apart circuit.inputs (take n circuit.gates) o out on free.1
    others (Const v o) on = apart circuit.inputs (take n circuit.gates) o out on free.1
    others (Assert a) on = tt

-- one gate more
pub so_far_more : (circuit : Arith) (inputs elements : List ℕ) (n : ℕ) (row : ArithRow) → IsWellFormed circuit → slice_get circuit.gates n ≡ Some row → AreSoFar circuit inputs elements n
    → AreSoFar circuit inputs (elements_after elements row) (n + 1)
so_far_more circuit inputs elements n (Add a b out) formed stands far =
    let may = formed.gates_fit n (Add a b out) stands in
    let v : ℕ = element_of elements a +ₚ element_of elements b in
    one_more circuit inputs elements n out v (Add a b out) formed stands (set_before circuit n (n + 1) (Add a b out) (omega arith) stands) may.2 (reduced _)
    (get_or-set_same elements out v 0 (omega (arith, may.2.0, far.whole))
    ∙ (λ i. sym (other_element elements out a v (apart circuit.inputs (take n circuit.gates) a out may.0.1 may.2.1)) i
    +ₚ sym (other_element elements out b v (apart circuit.inputs (take n circuit.gates) b out may.1.1 may.2.1)) i)) far
so_far_more circuit inputs elements n (Mul a b out) formed stands far =
    let may = formed.gates_fit n (Mul a b out) stands in
    let v : ℕ = element_of elements a *ₚ element_of elements b in
    one_more circuit inputs elements n out v (Mul a b out) formed stands (set_before circuit n (n + 1) (Mul a b out) (omega arith) stands) may.2 (reduced _)
    (get_or-set_same elements out v 0 (omega (arith, may.2.0, far.whole))
    ∙ (λ i. sym (other_element elements out a v (apart circuit.inputs (take n circuit.gates) a out may.0.1 may.2.1)) i
    *ₚ sym (other_element elements out b v (apart circuit.inputs (take n circuit.gates) b out may.1.1 may.2.1)) i)) far
so_far_more circuit inputs elements n (Const value out) formed stands far =
    let may = formed.gates_fit n (Const value out) stands in
    one_more circuit inputs elements n out (from_word value) (Const value out) formed stands (set_before circuit n (n + 1) (Const value out) (omega arith) stands) may.1 (reduced _)
    (get_or-set_same elements out (from_word value) 0 (omega (arith, may.1.0, far.whole)) ∙ same_word value may.0) far
so_far_more circuit inputs elements n (Assert a) formed stands far = record {
  whole = far.whole;
  elements_are = far.elements_are;
  first = far.first;
  gates = λ k gate less was. elim (eq-or-lt_of_le (most k less)) [
    | inl same ↦
        let at : slice_get circuit.gates n ≡ Some gate = subst (λ (i : ℕ). slice_get circuit.gates i ≡ Some gate) same was in
        let one : Assert a ≡ gate = found (Assert a) gate (sym stands ∙ at) in
        subst (λ (g : ArithRow). Computes elements g) one tt
    | inr before ↦ far.gates k gate before was
  ];
  unset = λ wire off. far.unset wire (unset_before circuit n (n + 1) wire (omega arith) off);
}
  where
    most : (k : ℕ) → k < n + 1 → k ≤ n
    most k less = omega (arith, less)

    found : (a b : ArithRow) → Some a ≡ Some b → a ≡ b
    found a b e = cc

-- as a loop over the gates has it
pub so_far_next : (circuit : Arith) (inputs elements now : List ℕ) (n : ℕ) (row : ArithRow) → IsWellFormed circuit → slice_get circuit.gates n ≡ Some row → now ≡ elements_after elements row
    → AreSoFar circuit inputs elements n → AreSoFar circuit inputs now (n + 1)
so_far_next circuit inputs elements now n row formed stands is far =
    subst (λ (l : List ℕ). AreSoFar circuit inputs l (n + 1)) (sym is) (so_far_more circuit inputs elements n row formed stands far)

-- all gates
pub all_computed : (circuit : Arith) (inputs elements : List ℕ) (n : ℕ) → length circuit.gates ≤ n → AreSoFar circuit inputs elements n → AreComputed circuit inputs elements
all_computed circuit inputs elements n all far = record {
  whole = far.whole;
  elements_are = far.elements_are;
  first = far.first;
  gates = λ k gate stands. far.gates k gate (omega (arith, all, slice_get_within circuit.gates k gate stands)) stands;
}

pub all_unset : (circuit : Arith) (inputs elements : List ℕ) (n : ℕ) → length circuit.gates ≤ n → AreSoFar circuit inputs elements n → LeavesUnset circuit elements
all_unset circuit inputs elements n all far wire off = far.unset wire (ap (λ l. is_set circuit.inputs l wire) (take_all n circuit.gates all) ∙ off)
