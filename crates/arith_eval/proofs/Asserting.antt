-- One assertion after another.
use Rattle.std.proofs.Common.{◌≡◌, ◌≢◌, ℕ, ◌+◌, ◌<◌, ◌≤◌, List, [], ◌∷◌, ◌++◌, flat_map, length, take, drop, get_or, arith, sym, ◌∙◌, ap, refl, subst, length-append, append_assoc, append-nil, length-take-le}
use Rattle.std.proofs.Math.Seq.{take-append_seam}
use Rattle.std.proofs.lemmas.Grind.{get_or_default_zero}
use Rattle.std.proofs.lemmas.List.{take_more, take_all, take-append-drop}
use Rattle.std.proofs.lemmas.List.Concat.{flat_map-append}
use Rattle.std.proofs.lemmas.List.Elements.{All-push, All-nil}
use Rattle.std.proofs.lemmas.Option.{slice_get_within, get_or_from_slice_get}
use Rattle.std.specs.Prelude.{Some, slice_get}
use Rattle.zk_model.specs.Arithmetic.{Arith, AreComputed, IsFirstFailed, IsWellFormed, SatisfiesElements, asserted, element_of, first_output, wires_asserted}
use Rattle.zk_model.specs.declared.ArithRow.{ArithRow}
use Rattle.zk_model.specs.declared.ArithRow.TheVariants.{Add, Mul, Const, Assert}
use Rattle.arith_laws.specs.Laws.{UnmetIsUnsatisfied}
use Rattle.arith_eval.specs.declared.asserts.Unmet.{Unmet}
use Rattle.arith_eval.specs.Answers.{AreZero, IsUnmet, IsUnsatisfied}

-- the assertions of the first n gates, of which there are so many, are met
pub record AreMetSoFar (rows : List ArithRow) (elements : List ℕ) (n number : ℕ) : Type 0 where
  pub count : number ≡ length (flat_map wires_asserted (take n rows))
  pub few : number ≤ n
  pub zero : AreZero elements (flat_map wires_asserted (take n rows))

pub met_first : (rows : List ArithRow) (elements : List ℕ) → AreMetSoFar rows elements 0 0
met_first rows elements = record { count = refl; few = omega arith; zero = All-nil (λ wire. element_of elements wire ≡ 0) }

-- what one gate more has
pub rows_more : (f : ArithRow → List ℕ) (rows : List ArithRow) (n : ℕ) (row : ArithRow) → slice_get rows n ≡ Some row
    → flat_map f (take (n + 1) rows) ≡ flat_map f (take n rows) ++ f row
rows_more f rows n row stands =
    ap (flat_map f) (take_more rows n row (slice_get_within rows n row stands) ∙ ap (λ r. take n rows ++ r ∷ []) (get_or_from_slice_get rows n row row stands))
    ∙ flat_map-append f (take n rows) (row ∷ []) ∙ ap (λ l. flat_map f (take n rows) ++ l) (append-nil (f row))

-- its assertions
wires_more : (rows : List ArithRow) (n : ℕ) (row : ArithRow) → slice_get rows n ≡ Some row
    → flat_map wires_asserted (take (n + 1) rows) ≡ flat_map wires_asserted (take n rows) ++ wires_asserted row
wires_more rows n row stands = rows_more wires_asserted rows n row stands

pub met_none : (rows : List ArithRow) (elements : List ℕ) (n number : ℕ) (row : ArithRow) → slice_get rows n ≡ Some row → wires_asserted row ≡ [] → AreMetSoFar rows elements n number
    → AreMetSoFar rows elements (n + 1) number
met_none rows elements n number row stands none far =
    let same : flat_map wires_asserted (take (n + 1) rows) ≡ flat_map wires_asserted (take n rows) =
    wires_more rows n row stands ∙ ap (λ l. flat_map wires_asserted (take n rows) ++ l) none ∙ append-nil (flat_map wires_asserted (take n rows)) in
    record {
      count = far.count ∙ ap length (sym same);
      few = omega (arith, far.few);
      zero = subst (AreZero elements) (sym same) far.zero;
    }

pub met_one : (rows : List ArithRow) (elements : List ℕ) (n number wire : ℕ) (row : ArithRow) → slice_get rows n ≡ Some row → wires_asserted row ≡ wire ∷ [] → element_of elements wire ≡ 0
    → AreMetSoFar rows elements n number → AreMetSoFar rows elements (n + 1) (number + 1)
met_one rows elements n number wire row stands one is far =
    let wires : List ℕ = flat_map wires_asserted (take n rows) in
    let same : flat_map wires_asserted (take (n + 1) rows) ≡ wires ++ wire ∷ [] = wires_more rows n row stands ∙ ap (λ l. wires ++ l) one in
    record {
      count = omega (arith, far.count, length-append wires (wire ∷ []), ap length same);
      few = omega (arith, far.few);
      zero = subst (AreZero elements) (sym same) (All-push (λ w. element_of elements w ≡ 0) wires wire far.zero is);
    }

pub all_met : (rows : List ArithRow) (elements : List ℕ) (n number : ℕ) → length rows ≤ n → AreMetSoFar rows elements n number → AreZero elements (flat_map wires_asserted rows)
all_met rows elements n number all far = subst (λ (l : List ArithRow). AreZero elements (flat_map wires_asserted l)) (take_all n rows all) far.zero

get_seam : (xs : List ℕ) (y : ℕ) (ys : List ℕ) → slice_get (xs ++ y ∷ ys) (length xs) ≡ Some y
get_seam [] y ys = refl
get_seam (x ∷ xs) y ys = get_seam xs y ys

pub unmet_found : (circuit : Arith) (elements : List ℕ) (n wire : ℕ) (row : ArithRow) (unmet : Unmet) → slice_get circuit.gates n ≡ Some row → wires_asserted row ≡ wire ∷ []
    → element_of elements wire ≡ unmet.value → unmet.value ≢ 0 → AreMetSoFar circuit.gates elements n unmet.number → IsUnmet circuit elements unmet
unmet_found circuit elements n wire row unmet stands one value_is not_zero far =
    let wires : List ℕ = flat_map wires_asserted (take n circuit.gates) in
    let rest : List ℕ = flat_map wires_asserted (drop (n + 1) circuit.gates) in
    let whole : asserted circuit ≡ wires ++ wire ∷ rest =
    ap (flat_map wires_asserted) (sym (take-append-drop (n + 1) circuit.gates)) ∙ flat_map-append wires_asserted (take (n + 1) circuit.gates) (drop (n + 1) circuit.gates)
    ∙ ap (λ l. l ++ rest) (wires_more circuit.gates n row stands ∙ ap (λ l. wires ++ l) one) ∙ append_assoc wires (wire ∷ []) rest in
    record {
      wire = wire;
      stands = (λ i. slice_get (whole i) (far.count i)) ∙ get_seam wires wire rest;
      value_is = value_is;
      not_zero = not_zero;
      before = subst (AreZero elements) (sym ((λ i. take (far.count i) (whole i)) ∙ take-append_seam wires (wire ∷ rest))) far.zero;
    }

-- an asserted wire is one of the circuit's
pub asserted_within : (circuit : Arith) (n wire : ℕ) (row : ArithRow) → IsWellFormed circuit → slice_get circuit.gates n ≡ Some row → wires_asserted row ≡ wire ∷ [] → wire < circuit.wires
asserted_within circuit n wire (Add a b out) formed stands one = absurd cc
asserted_within circuit n wire (Mul a b out) formed stands one = absurd cc
asserted_within circuit n wire (Const value out) formed stands one = absurd cc
asserted_within circuit n wire (Assert a) formed stands one =
    let may = formed.gates_fit n (Assert a) stands in
    let same : a ≡ wire = first a wire one in
    subst (λ (w : ℕ). w < circuit.wires) same may.0
  where
    first : (a b : ℕ) → ◌≡◌ {A = List ℕ} (a ∷ []) (b ∷ []) → a ≡ b
    first a b e = cc

-- ---- answers

pub unsatisfied : (circuit : Arith) (values elements : List ℕ) (unmet : Unmet) → UnmetIsUnsatisfied → IsWellFormed circuit → AreComputed circuit values elements → IsUnmet circuit elements unmet
    → IsUnsatisfied circuit values unmet.number unmet.value
unsatisfied circuit values elements unmet law formed computed is =
    let failed : IsFirstFailed circuit values unmet.number unmet.value = record {
      elements = elements;
      computed = computed;
      wire = is.wire;
      stands = is.stands;
      value_is = is.value_is;
      not_zero = is.not_zero;
      before = is.before;
    } in
    record { first = failed; no_outputs = law circuit values unmet.number unmet.value formed failed }

pub satisfied : (circuit : Arith) (values elements outputs : List ℕ) → AreComputed circuit values elements → AreZero elements (asserted circuit) → outputs ≡ drop (first_output circuit) elements
    → SatisfiesElements circuit values outputs
satisfied circuit values elements outputs computed zeros last = (elements, record { computed = computed; zero = zeros }, sym last)

-- there are as many values as inputs then
pub sized : (circuit : Arith) (values elements : List ℕ) → IsWellFormed circuit → AreComputed circuit values elements → length values ≡ circuit.inputs
sized circuit values elements formed computed =
    ap length (sym computed.first) ∙ length-take-le circuit.inputs elements (omega (arith, computed.whole, formed.inputs_within))

-- ---- one wire

-- the element that is read of a wire
pub read_at : (elements : List ℕ) (wire value : ℕ) → wire < length elements → value ≡ get_or elements wire value → element_of elements wire ≡ value
read_at elements wire value within is = sym (get_or_default_zero elements wire value within) ∙ sym is

pub below : (circuit : Arith) (elements : List ℕ) (n wire : ℕ) (row : ArithRow) → IsWellFormed circuit → slice_get circuit.gates n ≡ Some row → wires_asserted row ≡ wire ∷ []
    → length elements ≡ circuit.wires → wire < length elements
below circuit elements n wire row formed stands one whole = omega (arith, asserted_within circuit n wire row formed stands one, whole)
