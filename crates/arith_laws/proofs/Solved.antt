-- Solving the program of a circuit is satisfying the circuit.
use Rattle.std.proofs.Common.{◌≡◌, ℕ, zero, suc, ◌+◌, ◌*◌, ◌-◌, ◌%◌, Some, List, [], ◌∷◌, ◌++◌, map, take, drop, length, get_or, refl, ap, sym, ◌∙◌, subst, arith, append_assoc, length-append, length-drop}
use Rattle.std.specs.Prelude.{All, replicate, slice_get, slice_index}
use Rattle.std.specs.List.{AllByRecursion, range_with_len}
use Rattle.std.proofs.Math.Seq.{take-append_seam}
use Rattle.std.proofs.lemmas.List.{drop_more, get_or-append-add, length-map, map-append, take-map, drop-map}
use Rattle.std.proofs.lemmas.List.Elements.{All-from_recursion, recursion_from_All, All-append, All-take}
use Rattle.mersenne_field.proofs.FieldLaws.{reduced}
use Rattle.mersenne_field.proofs.Flatten.{flatten}
use Rattle.zk_model.specs.Field.{IsElement, prime, ◌+ₚ◌, ◌*ₚ◌}
use Rattle.zk_model.specs.Program.{IsSolvedBy, MeetsStep, Multiplies, Solves}
use Rattle.zk_model.specs.Arithmetic.{Arith, AreComputed, Computes, IsWellFormed, MayCome, SatisfiesElements, asserted, element_of, first_output}
use Rattle.zk_model.specs.ArithProgram.{arith_claims, arith_program, products_from, steps_from}
use Rattle.zk_model.specs.declared.ArithRow.{ArithRow}
use Rattle.zk_model.specs.declared.ArithRow.TheVariants.{Add, Mul, Const, Assert}
use Rattle.arith_laws.specs.Laws.{SolvedIsSatisfied}

-- ---- gates by number, and one after another

each_by : (P : ArithRow → Type 0) (gates : List ArithRow) → AllByRecursion P gates → (n : ℕ) (gate : ArithRow) → slice_get gates n ≡ Some gate → P gate
each_by P [] all n gate stands = absurd (nothing n stands)
  where
    nothing : (n : ℕ) → slice_get [] n ≡ Some gate → ⊥
    nothing n e = absurd cc
each_by P (first ∷ gates) all zero gate stands = let same : first ≡ gate = cc in subst P same all.0
each_by P (first ∷ gates) all (suc n) gate stands = each_by P gates all.1 n gate stands

by_each : (P : ArithRow → Type 0) (gates : List ArithRow) → ((n : ℕ) (gate : ArithRow) → slice_get gates n ≡ Some gate → P gate) → AllByRecursion P gates
by_each P [] each = tt
by_each P (first ∷ gates) each = (each 0 first refl, by_each P gates (λ n gate stands. each (suc n) gate stands))

-- a constant is an element
abbrev IsConstant : ArithRow → Type 0
IsConstant (Add a b out) = Unit {0}
IsConstant (Mul a b out) = Unit {0}
IsConstant (Const value out) = IsElement value
IsConstant (Assert a) = Unit {0}

constants : (circuit : Arith) → IsWellFormed circuit → AllByRecursion IsConstant circuit.gates
constants circuit formed = by_each IsConstant circuit.gates (λ n gate stands. of (take n circuit.gates) gate (formed.gates_fit n gate stands))
  where
    of : (before : List ArithRow) (gate : ArithRow) → MayCome circuit before gate → IsConstant gate
    of before (Add a b out) may = tt
    of before (Mul a b out) may = tt
    of before (Const value out) may = may.0
    of before (Assert a) may = tt

-- ---- numbers

sum_term : (x y : ℕ) → (0 + 1 * x + 1 * y + 0 + 0 * 1) % prime ≡ (x + y) % prime
sum_term x y = ap (λ n. n % prime) (same x y)
  where
    same : (x y : ℕ) → 0 + 1 * x + 1 * y + 0 + 0 * 1 ≡ x + y
    same x y = omega arith

one_term : (x : ℕ) → IsElement x → (0 + (0 + 1 * x) + 0 * 1) % prime ≡ x
one_term x is = omega (arith, is)

constant_term : (x : ℕ) → IsElement x → (0 + 0 + x * 1) % prime ≡ x
constant_term x is = omega (arith, is)

-- ---- a satisfied circuit

-- the values of the products of gates
abbrev pub values_from : List ℕ → List ArithRow → List ℕ
values_from elements [] = []
values_from elements (Add a b out ∷ gates) = values_from elements gates
values_from elements (Mul a b out ∷ gates) = element_of elements a *ₚ element_of elements b ∷ values_from elements gates
values_from elements (Const value out ∷ gates) = values_from elements gates
values_from elements (Assert a ∷ gates) = values_from elements gates

length-values : (elements : List ℕ) (gates : List ArithRow) (c : ℕ) → length (values_from elements gates) ≡ length (products_from c gates)
length-values elements [] c = refl
length-values elements (Add a b out ∷ gates) c = length-values elements gates c
length-values elements (Mul a b out ∷ gates) c = ap suc (length-values elements gates (c + 1))
length-values elements (Const value out ∷ gates) c = length-values elements gates c
length-values elements (Assert a ∷ gates) c = length-values elements gates c

values_are : (elements : List ℕ) (gates : List ArithRow) → AllByRecursion IsElement (values_from elements gates)
values_are elements [] = tt
values_are elements (Add a b out ∷ gates) = values_are elements gates
values_are elements (Mul a b out ∷ gates) = (reduced _, values_are elements gates)
values_are elements (Const value out ∷ gates) = values_are elements gates
values_are elements (Assert a ∷ gates) = values_are elements gates

-- the given value at a place
given_at : (before : List ℕ) (value : ℕ) (behind given : List ℕ) (c : ℕ) → given ≡ before ++ value ∷ behind → length before ≡ c → slice_index given c ≡ value
given_at before value behind given c is long =
    ap (λ l. get_or l c 0) is ∙ ap (λ n. get_or (before ++ value ∷ behind) n 0) (place c long) ∙ get_or-append-add before (value ∷ behind) 0 0
  where
    place : (c : ℕ) → length before ≡ c → c ≡ length before + 0
    place c long = omega (arith, long)

next_before : (before : List ℕ) (value : ℕ) (behind given : List ℕ) → given ≡ before ++ value ∷ behind → given ≡ (before ++ value ∷ []) ++ behind
next_before before value behind given is = is ∙ sym (append_assoc before (value ∷ []) behind)

next_long : (before : List ℕ) (value c : ℕ) → length before ≡ c → length (before ++ value ∷ []) ≡ c + 1
next_long before value c long = length-append before (value ∷ []) ∙ ap (λ n. n + 1) long

-- every step and every product is right
record AreRight (elements given : List ℕ) (c : ℕ) (gates : List ArithRow) : Type 0 where
  steps : AllByRecursion (MeetsStep 1 elements given) (steps_from c gates)
  products : AllByRecursion (Multiplies elements given) (products_from c gates)

right : (elements given : List ℕ) (gates : List ArithRow) (before : List ℕ) (c : ℕ) → AllByRecursion (Computes elements) gates → AllByRecursion IsConstant gates
    → given ≡ before ++ values_from elements gates → length before ≡ c → AreRight elements given c gates
right elements given [] before c computes fits is long = record { steps = tt; products = tt }
right elements given (Add a b out ∷ gates) before c computes fits is long =
    let rest = right elements given gates before c computes.1 fits.1 is long in
    record { steps = (computes.0 ∙ sym (sum_term (element_of elements a) (element_of elements b)), rest.steps); products = rest.products }
right elements given (Mul a b out ∷ gates) before c computes fits is long =
    let value : ℕ = element_of elements a *ₚ element_of elements b in
    let at : slice_index given c ≡ value = given_at before value (values_from elements gates) given c is long in
    let rest = right elements given gates (before ++ value ∷ []) (c + 1) computes.1 fits.1 (next_before before value (values_from elements gates) given is) (next_long before value c long) in
    record {
      steps = (computes.0 ∙ sym (one_term value (reduced _)) ∙ ap (λ x. (0 + (0 + 1 * x) + 0 * 1) % prime) (sym at), rest.steps);
      products = (at, rest.products);
    }
right elements given (Const value out ∷ gates) before c computes fits is long =
    let rest = right elements given gates before c computes.1 fits.1 is long in
    record { steps = (computes.0 ∙ sym (constant_term value fits.0), rest.steps); products = rest.products }
right elements given (Assert a ∷ gates) before c computes fits is long =
    let rest = right elements given gates before c computes.1 fits.1 is long in
    record { steps = rest.steps; products = rest.products }

-- the elements of the last wires
last_elements : (elements : List ℕ) (first n : ℕ) → first + n ≡ length elements → map (slice_index elements) (range_with_len first n) ≡ drop first elements
last_elements elements first zero whole =
    let nothing : length elements - first ≡ 0 = omega (arith, whole) in
    sym (none (drop first elements) (length-drop first elements ∙ nothing))
  where
    none : (l : List ℕ) → length l ≡ 0 → l ≡ []
    none [] e = refl
    none (x ∷ l) e = absurd (omega (arith, e))
last_elements elements first (suc n) whole =
    ap (λ l. slice_index elements first ∷ l) (last_elements elements (first + 1) n (omega (arith, whole))) ∙ sym (drop_more elements first 0 (omega (arith, whole)))

-- wires that are 0
zeros : (elements wires : List ℕ) → AllByRecursion (λ wire. element_of elements wire ≡ 0) wires → map (slice_index elements) wires ≡ replicate (length wires) 0
zeros elements [] all = refl
zeros elements (wire ∷ wires) all = (λ i. all.0 i ∷ zeros elements wires all.1 i)

zeros_back : (elements wires : List ℕ) → map (slice_index elements) wires ≡ replicate (length wires) 0 → AllByRecursion (λ wire. element_of elements wire ≡ 0) wires
zeros_back elements [] all = tt
zeros_back elements (wire ∷ wires) all = (ap (λ l. get_or l 0 0) all, zeros_back elements wires (ap (drop 1) all))

-- the given values of a circuit that computes these elements: its inputs, and then its products
abbrev pub given_values : Arith → List ℕ → List ℕ → List ℕ
given_values circuit inputs elements = inputs ++ values_from elements circuit.gates

pub first_given : (circuit : Arith) (inputs elements : List ℕ) → length inputs ≡ circuit.inputs
    → take circuit.inputs (given_values circuit inputs elements) ≡ inputs
first_given circuit inputs elements long =
    ap (λ n. take n (given_values circuit inputs elements)) (sym long) ∙ take-append_seam inputs (values_from elements circuit.gates)

-- they solve its program, whether or not assertions are met
pub computed_is_solved : (circuit : Arith) (inputs elements : List ℕ) → IsWellFormed circuit → length inputs ≡ circuit.inputs
    → AreComputed circuit inputs elements → Solves (arith_program circuit) [] elements (given_values circuit inputs elements)
computed_is_solved circuit inputs elements formed long computed =
    let values : List ℕ = values_from elements circuit.gates in
    let given : List ℕ = given_values circuit inputs elements in
    let are = right elements given circuit.gates inputs circuit.inputs (by_each (Computes elements) circuit.gates computed.gates) (constants circuit formed) refl long in
    record {
      carried = record {
        whole = computed.whole;
        constants = refl;
        inputs = computed.first ∙ sym (first_given circuit inputs elements long);
        steps = All-from_recursion (MeetsStep 1 elements given) (steps_from circuit.inputs circuit.gates) are.steps;
      };
      count = length-append inputs values ∙ (λ i. long i + length-values elements circuit.gates circuit.inputs i);
      elements = All-append IsElement inputs values (subst (All IsElement) computed.first (All-take IsElement circuit.inputs elements computed.elements_are))
          (All-from_recursion IsElement values (values_are elements circuit.gates));
      multiplied = All-from_recursion (Multiplies elements given) (products_from circuit.inputs circuit.gates) are.products;
    }

pub satisfied_is_solved : (circuit : Arith) (inputs outputs : List ℕ) → IsWellFormed circuit → length inputs ≡ circuit.inputs → SatisfiesElements circuit inputs outputs
    → IsSolvedBy (arith_program circuit) [] inputs (arith_claims circuit outputs)
satisfied_is_solved circuit inputs outputs formed long by =
    let elements : List ℕ = by.0 in
    let computed = by.1.computed in
    record {
      wires = elements;
      given = given_values circuit inputs elements;
      solved = computed_is_solved circuit inputs elements formed long computed;
      first = first_given circuit inputs elements long;
      last = map-append (slice_index elements) (range_with_len (first_output circuit) circuit.outputs) (asserted circuit)
          ∙ (λ i. (last_elements elements (first_output circuit) circuit.outputs (omega (arith, computed.whole, formed.outputs_within)) ∙ by.2) i
          ++ zeros elements (asserted circuit) (recursion_from_All (λ wire. element_of elements wire ≡ 0) (asserted circuit) by.1.zero) i);
    }

-- ---- a solved program

abbrev reduce : List ℕ → List ℕ
reduce wires = map (λ w. w % prime) wires

reduced_at : (wires : List ℕ) (wire : ℕ) → element_of (reduce wires) wire ≡ element_of wires wire % prime
reduced_at [] wire = refl
reduced_at (w ∷ wires) zero = refl
reduced_at (w ∷ wires) (suc wire) = reduced_at wires wire

reduced_all : (wires : List ℕ) → AllByRecursion IsElement (reduce wires)
reduced_all [] = tt
reduced_all (w ∷ wires) = (reduced w, reduced_all wires)

reduced_same : (wires : List ℕ) → AllByRecursion IsElement wires → reduce wires ≡ wires
reduced_same [] all = refl
reduced_same (w ∷ wires) all = (λ i. one w all.0 i ∷ reduced_same wires all.1 i)
  where
    one : (w : ℕ) → IsElement w → w % prime ≡ w
    one w is = omega (arith, is)

add_reduced : (x y : ℕ) → ((x + y) % prime) % prime ≡ (x % prime + y % prime) % prime
add_reduced x y = simp flatten refl

mul_reduced : (x y : ℕ) → ((x * y) % prime) % prime ≡ ((x % prime) * (y % prime)) % prime
mul_reduced x y = simp flatten refl

given_of : (x : ℕ) → (0 + (0 + 1 * x) + 0 * 1) % prime ≡ x % prime
given_of x = omega arith

computes : (wires given : List ℕ) (gates : List ArithRow) (c : ℕ) → AllByRecursion IsConstant gates → AllByRecursion (MeetsStep 1 wires given) (steps_from c gates)
    → AllByRecursion (Multiplies wires given) (products_from c gates) → AllByRecursion (Computes (reduce wires)) gates
computes wires given [] c fits steps products = tt
computes wires given (Add a b out ∷ gates) c fits steps products =
    let x : ℕ = element_of wires a in
    let y : ℕ = element_of wires b in (
      reduced_at wires out ∙ ap (λ n. n % prime) (steps.0 ∙ sum_term x y) ∙ add_reduced x y ∙ (λ i. sym (reduced_at wires a) i +ₚ sym (reduced_at wires b) i),
      computes wires given gates c fits.1 steps.1 products,
    )
computes wires given (Mul a b out ∷ gates) c fits steps products =
    let x : ℕ = element_of wires a in
    let y : ℕ = element_of wires b in (
      reduced_at wires out ∙ ap (λ n. n % prime) (steps.0 ∙ given_of (slice_index given c) ∙ ap (λ n. n % prime) products.0) ∙ ap (λ n. n % prime) (twice (x * y)) ∙ mul_reduced x y
          ∙ (λ i. sym (reduced_at wires a) i *ₚ sym (reduced_at wires b) i),
      computes wires given gates (c + 1) fits.1 steps.1 products.1,
    )
  where
    twice : (n : ℕ) → (n % prime) % prime ≡ n % prime
    twice n = simp flatten refl
computes wires given (Const value out ∷ gates) c fits steps products =
    (reduced_at wires out ∙ ap (λ n. n % prime) (steps.0 ∙ constant_term value fits.0) ∙ one value fits.0, computes wires given gates c fits.1 steps.1 products)
  where
    one : (w : ℕ) → IsElement w → w % prime ≡ w
    one w is = omega (arith, is)
computes wires given (Assert a ∷ gates) c fits steps products = (tt, computes wires given gates c fits.1 steps products)

-- two lists of the same length before others
parts_same : (xs ys us vs : List ℕ) → length xs ≡ length us → xs ++ ys ≡ us ++ vs → (xs ≡ us) × (ys ≡ vs)
parts_same [] ys [] vs long same = (refl, same)
parts_same [] ys (u ∷ us) vs long same = absurd (omega (arith, long))
parts_same (x ∷ xs) ys [] vs long same = absurd (omega (arith, long))
parts_same (x ∷ xs) ys (u ∷ us) vs long same =
    let rest = parts_same xs ys us vs (omega (arith, long)) (ap (drop 1) same) in
    ((λ i. ap (λ l. get_or l 0 0) same i ∷ rest.0 i), rest.1)

pub length-range : (first n : ℕ) → length (range_with_len first n) ≡ n
length-range first zero = refl
length-range first (suc n) = ap suc (length-range (first + 1) n)

pub solved_satisfies : (circuit : Arith) (inputs outputs : List ℕ) → IsWellFormed circuit → All IsElement outputs → length outputs ≡ circuit.outputs → length inputs ≡ circuit.inputs
    → IsSolvedBy (arith_program circuit) [] inputs (arith_claims circuit outputs) → SatisfiesElements circuit inputs outputs
solved_satisfies circuit inputs outputs formed are count long by =
    let wires : List ℕ = by.wires in
    let carried = by.solved.carried in
    let program = arith_program circuit in
    let steps = recursion_from_All (MeetsStep 1 wires by.given) (steps_from circuit.inputs circuit.gates) carried.steps in
    let products = recursion_from_All (Multiplies wires by.given) (products_from circuit.inputs circuit.gates) by.solved.multiplied in
    let all = computes wires by.given circuit.gates circuit.inputs (constants circuit formed) steps products in
    let same_inputs : take circuit.inputs wires ≡ inputs = carried.inputs ∙ by.first in
    let inputs_are : All IsElement inputs = subst (All IsElement) by.first (All-take IsElement circuit.inputs by.given by.solved.elements) in
    let parts = parts_same (map (slice_index wires) (range_with_len (first_output circuit) circuit.outputs)) (map (slice_index wires) (asserted circuit)) outputs
    (replicate (length (asserted circuit)) 0) (length-map (range_with_len (first_output circuit) circuit.outputs) (slice_index wires) ∙ length-range (first_output circuit) circuit.outputs ∙ sym count)
    (sym (map-append (slice_index wires) (range_with_len (first_output circuit) circuit.outputs) (asserted circuit)) ∙ by.last) in
    let last : drop (first_output circuit) wires ≡ outputs =
    sym (last_elements wires (first_output circuit) circuit.outputs (omega (arith, carried.whole, formed.outputs_within))) ∙ parts.0 in (
      reduce wires,
      record {
        computed = record {
          whole = length-map wires (λ w. w % prime) ∙ carried.whole;
          elements_are = All-from_recursion IsElement (reduce wires) (reduced_all wires);
          first = take-map (λ w. w % prime) circuit.inputs wires ∙ ap reduce same_inputs ∙ reduced_same inputs (recursion_from_All IsElement inputs inputs_are);
          gates = each_by (Computes (reduce wires)) circuit.gates all;
        };
        zero = All-from_recursion (λ wire. element_of (reduce wires) wire ≡ 0) (asserted circuit) (zeros_reduced (asserted circuit) (zeros_back wires (asserted circuit) parts.1));
      },
      drop-map (λ w. w % prime) (first_output circuit) wires ∙ ap reduce last ∙ reduced_same outputs (recursion_from_All IsElement outputs are),
    )
  where
    zeros_reduced : (list : List ℕ) → AllByRecursion (λ wire. element_of by.wires wire ≡ 0) list → AllByRecursion (λ wire. element_of (reduce by.wires) wire ≡ 0) list
    zeros_reduced [] all = tt
    zeros_reduced (w ∷ list) all = (reduced_at by.wires w ∙ ap (λ n. n % prime) all.0, zeros_reduced list all.1)

pub solved_is_satisfied : SolvedIsSatisfied
solved_is_satisfied circuit inputs outputs formed are count long =
    (solved_satisfies circuit inputs outputs formed are count long, satisfied_is_solved circuit inputs outputs formed long)
