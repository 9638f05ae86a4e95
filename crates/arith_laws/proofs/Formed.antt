-- The program of a well formed circuit is well formed.
use Rattle.std.proofs.Common.{◌≡◌, ℕ, zero, suc, ◌+◌, ◌-◌, ◌<◌, ◌≤◌, true, false, Some, List, [], ◌∷◌, take, length, get_or, refl, ap, sym, ◌∙◌, subst, arith, inl, inr, eq-eqb, eqb-true, lit<, take_all, add-zero}
use Rattle.std.specs.Prelude.{All, slice_get}
use Rattle.std.specs.List.{range_with_len}
use Rattle.std.proofs.lemmas.List.Elements.{All-from_recursion, All-append, All-nil, All-cons}
use Rattle.std.proofs.lemmas.List.FromFn.{get_or-range_with_len}
use Rattle.std.proofs.lemmas.Option.{slice_get_within, slice_get-get_or}
use Rattle.zk_model.specs.Field.{IsElement}
use Rattle.zk_model.specs.Boolean.{once}
use Rattle.zk_model.specs.Program.{IsMadeBefore, IsMadeOnce, IsProduct, IsSet, IsSetInAll, IsStep, Step}
use Rattle.zk_model.specs.declared.Product.{Product}
use Rattle.zk_model.specs.Arithmetic.{Arith, IsWellFormed, MayCome, asserted, first_output, is_set, sets}
use Rattle.zk_model.specs.ArithProgram.{arith_program, products_from, steps_from}
use Rattle.zk_model.specs.declared.ArithRow.{ArithRow}
use Rattle.zk_model.specs.declared.ArithRow.TheVariants.{Add, Mul, Const, Assert}
use Rattle.arith_laws.specs.Laws.{ArithIsOrdered, ArithIsProgram}
use Rattle.arith_laws.proofs.OneList.{assert_of, output_set}
use Rattle.arith_laws.proofs.Solved.{length-range}
use Rattle.arith_laws.proofs.Ordering.{SetBy, gate_sets, input_set, set_later, set_so}

-- how many steps and products the first k gates have
abbrev steps_to : ℕ → List ArithRow → ℕ → ℕ
steps_to c gates k = length (steps_from c (take k gates))

abbrev products_to : ℕ → List ArithRow → ℕ → ℕ
products_to c gates k = length (products_from c (take k gates))

-- ---- the gate of a step

-- the step of a gate whose product, if it has one, has this given value
abbrev IsStepOf : ℕ → ArithRow → Step → Type 0
IsStepOf c (Add a b out) step = step ≡ record { out = out; wires = once a ∷ once b ∷ []; given = []; constant = 0 }
IsStepOf c (Mul a b out) step = step ≡ record { out = out; wires = []; given = once c ∷ []; constant = 0 }
IsStepOf c (Const value out) step = step ≡ record { out = out; wires = []; given = []; constant = value }
IsStepOf c (Assert a) step = ⊥

record HasGate (c : ℕ) (gates : List ArithRow) (n : ℕ) (step : Step) : Type 0 where
  number : ℕ
  gate : ArithRow
  stands : slice_get gates number ≡ Some gate
  at : steps_to c gates number ≡ n
  is : IsStepOf (c + products_to c gates number) gate step

step_is : (a b : Step) → Some a ≡ Some b → b ≡ a
step_is a b e = cc

none_in : {A B : Type 0} (n : ℕ) (a : A) → slice_get [] n ≡ Some a → B
none_in n a e = absurd cc

gate_of : (c : ℕ) (gates : List ArithRow) (n : ℕ) (step : Step) → slice_get (steps_from c gates) n ≡ Some step → HasGate c gates n step
gate_of c [] n step stands = none_in n step stands
gate_of c (Add a b out ∷ gates) zero step stands = record { number = 0; gate = Add a b out; stands = refl; at = refl; is = step_is _ _ stands }
gate_of c (Add a b out ∷ gates) (suc n) step stands =
    let rest = gate_of c gates n step stands in
    record { number = suc rest.number; gate = rest.gate; stands = rest.stands; at = ap suc rest.at; is = rest.is }
gate_of c (Mul a b out ∷ gates) zero step stands = record {
  number = 0;
  gate = Mul a b out;
  stands = refl;
  at = refl;
  is = subst (λ (d : ℕ). IsStepOf d (Mul a b out) step) (sym (add-zero c)) (step_is _ _ stands);
}
gate_of c (Mul a b out ∷ gates) (suc n) step stands =
    let rest = gate_of (c + 1) gates n step stands in
    let place : c + 1 + products_to (c + 1) gates rest.number ≡ c + suc (products_to (c + 1) gates rest.number) = omega arith in
    record {
      number = suc rest.number;
      gate = rest.gate;
      stands = rest.stands;
      at = ap suc rest.at;
      is = subst (λ (d : ℕ). IsStepOf d rest.gate step) place rest.is;
    }
gate_of c (Const value out ∷ gates) zero step stands = record { number = 0; gate = Const value out; stands = refl; at = refl; is = step_is _ _ stands }
gate_of c (Const value out ∷ gates) (suc n) step stands =
    let rest = gate_of c gates n step stands in
    record { number = suc rest.number; gate = rest.gate; stands = rest.stands; at = ap suc rest.at; is = rest.is }
gate_of c (Assert a ∷ gates) n step stands =
    let rest = gate_of c gates n step stands in
    record { number = suc rest.number; gate = rest.gate; stands = rest.stands; at = rest.at; is = rest.is }

-- ---- the step of a gate that sets a wire

record HasStep (c : ℕ) (gates : List ArithRow) (k wire : ℕ) : Type 0 where
  step : Step
  stands : slice_get (steps_from c gates) (steps_to c gates k) ≡ Some step
  out : step.out ≡ wire

step_of : (c : ℕ) (gates : List ArithRow) (k wire : ℕ) (gate : ArithRow) → slice_get gates k ≡ Some gate → sets wire gate ≡ true → HasStep c gates k wire
step_of c [] k wire gate stands is = none_in k gate stands
step_of c (Add a b out ∷ gates) zero wire gate stands is =
    record { step = _; stands = refl; out = eqb-true out wire (ap (sets wire) (row_is _ _ stands) ∙ is) }
  where
    row_is : (x y : ArithRow) → Some x ≡ Some y → x ≡ y
    row_is x y e = cc
step_of c (Add a b out ∷ gates) (suc k) wire gate stands is =
    let rest = step_of c gates k wire gate stands is in record { step = rest.step; stands = rest.stands; out = rest.out }
step_of c (Mul a b out ∷ gates) zero wire gate stands is =
    record { step = _; stands = refl; out = eqb-true out wire (ap (sets wire) (row_is _ _ stands) ∙ is) }
  where
    row_is : (x y : ArithRow) → Some x ≡ Some y → x ≡ y
    row_is x y e = cc
step_of c (Mul a b out ∷ gates) (suc k) wire gate stands is =
    let rest = step_of (c + 1) gates k wire gate stands is in record { step = rest.step; stands = rest.stands; out = rest.out }
step_of c (Const value out ∷ gates) zero wire gate stands is =
    record { step = _; stands = refl; out = eqb-true out wire (ap (sets wire) (row_is _ _ stands) ∙ is) }
  where
    row_is : (x y : ArithRow) → Some x ≡ Some y → x ≡ y
    row_is x y e = cc
step_of c (Const value out ∷ gates) (suc k) wire gate stands is =
    let rest = step_of c gates k wire gate stands is in record { step = rest.step; stands = rest.stands; out = rest.out }
step_of c (Assert a ∷ gates) zero wire gate stands is = absurd (nothing (row_is _ _ stands))
  where
    row_is : (x y : ArithRow) → Some x ≡ Some y → x ≡ y
    row_is x y e = cc

    nothing : Assert a ≡ gate → ⊥
    nothing e = let no : false ≡ true = ap (sets wire) e ∙ is in absurd cc
step_of c (Assert a ∷ gates) (suc k) wire gate stands is =
    let rest = step_of c gates k wire gate stands is in record { step = rest.step; stands = rest.stands; out = rest.out }

-- ---- counts rise

rises : (c : ℕ) (gates : List ArithRow) (k n : ℕ) → k ≤ n → steps_to c gates k ≤ steps_to c gates n
rises c gates zero n more = omega arith
rises c [] (suc k) n more = low n
  where
    low : (n : ℕ) → steps_to c [] (suc k) ≤ steps_to c [] n
    low zero = omega arith
    low (suc n) = omega arith
rises c (row ∷ gates) (suc k) zero more = absurd (omega (arith, more))
rises c (Add a b out ∷ gates) (suc k) (suc n) more = let rest = rises c gates k n (omega (arith, more)) in omega (arith, rest)
rises c (Mul a b out ∷ gates) (suc k) (suc n) more = let rest = rises (c + 1) gates k n (omega (arith, more)) in omega (arith, rest)
rises c (Const value out ∷ gates) (suc k) (suc n) more = let rest = rises c gates k n (omega (arith, more)) in omega (arith, rest)
rises c (Assert a ∷ gates) (suc k) (suc n) more = rises c gates k n (omega (arith, more))

-- a gate that sets a wire has a step of its own
one_more : (c : ℕ) (gates : List ArithRow) (k wire : ℕ) (gate : ArithRow) → slice_get gates k ≡ Some gate → sets wire gate ≡ true → steps_to c gates (suc k) ≡ suc (steps_to c gates k)
one_more c [] k wire gate stands is = none_in k gate stands
one_more c (Add a b out ∷ gates) zero wire gate stands is = refl
one_more c (Mul a b out ∷ gates) zero wire gate stands is = refl
one_more c (Const value out ∷ gates) zero wire gate stands is = refl
one_more c (Assert a ∷ gates) zero wire gate stands is = absurd (nothing (row_is _ _ stands))
  where
    row_is : (x y : ArithRow) → Some x ≡ Some y → x ≡ y
    row_is x y e = cc

    nothing : Assert a ≡ gate → ⊥
    nothing e = let no : false ≡ true = ap (sets wire) e ∙ is in absurd cc
one_more c (Add a b out ∷ gates) (suc k) wire gate stands is = ap suc (one_more c gates k wire gate stands is)
one_more c (Mul a b out ∷ gates) (suc k) wire gate stands is = ap suc (one_more (c + 1) gates k wire gate stands is)
one_more c (Const value out ∷ gates) (suc k) wire gate stands is = ap suc (one_more c gates k wire gate stands is)
one_more c (Assert a ∷ gates) (suc k) wire gate stands is = one_more c gates k wire gate stands is

-- ---- wires that are set

abbrev place_of : Arith → ℕ → ℕ
place_of circuit k = steps_to circuit.inputs circuit.gates k

to_step : (circuit : Arith) (k wire : ℕ) → SetBy circuit k wire → IsSet (arith_program circuit) (place_of circuit k) wire
to_step circuit k wire is = elim (set_so circuit k wire is) [
  | inl input ↦ inl (omega (arith, input))
  | inr by ↦
      let step = step_of circuit.inputs circuit.gates by.number wire by.gate by.stands by.sets_it in
      let own = one_more circuit.inputs circuit.gates by.number wire by.gate by.stands by.sets_it in
      let more = rises circuit.inputs circuit.gates (suc by.number) k (omega (arith, by.before)) in
      inr (place_of circuit by.number, step.step, omega (arith, own, more), step.stands, step.out)
]

from_step : (circuit : Arith) (k wire : ℕ) → IsSet (arith_program circuit) (place_of circuit k) wire → SetBy circuit k wire
from_step circuit k wire (inl input) = input_set circuit k wire (omega (arith, input))
from_step circuit k wire (inr by) =
    let gate = gate_of circuit.inputs circuit.gates by.0 by.1 by.3 in
    gate_sets circuit k wire (record {
      number = gate.number;
      gate = gate.gate;
      before = below gate.number gate.at;
      stands = gate.stands;
      sets_it = own gate.gate (circuit.inputs + products_to circuit.inputs circuit.gates gate.number) gate.is;
    })
  where
    below : (m : ℕ) → place_of circuit m ≡ by.0 → m < k
    below m at =
        let never : k ≤ m → ⊥ = λ more. let up = rises circuit.inputs circuit.gates k m more in absurd (omega (arith, up, at, by.2)) in
        omega (arith, never)

    own : (gate : ArithRow) (c : ℕ) → IsStepOf c gate by.1 → sets wire gate ≡ true
    own (Add a b out) c is = eq-eqb out wire (sym (ap (λ (s : Step). s.out) is) ∙ by.4)
    own (Mul a b out) c is = eq-eqb out wire (sym (ap (λ (s : Step). s.out) is) ∙ by.4)
    own (Const value out) c is = eq-eqb out wire (sym (ap (λ (s : Step). s.out) is) ∙ by.4)
    own (Assert a) c is = absurd is

-- a wire that some gate sets
in_all : (circuit : Arith) (k wire : ℕ) → k ≤ length circuit.gates → SetBy circuit k wire → IsSetInAll (arith_program circuit) wire
in_all circuit k wire within is =
    subst (λ (l : List ArithRow). IsSet (arith_program circuit) (length (steps_from circuit.inputs l)) wire) (take_all (length circuit.gates) circuit.gates (omega arith))
    (to_step circuit (length circuit.gates) wire (set_later circuit k (length circuit.gates) wire within is))

-- ---- products

record HasMul (c : ℕ) (gates : List ArithRow) (j : ℕ) (product : Product) : Type 0 where
  number : ℕ
  out : ℕ
  stands : slice_get gates number ≡ Some (Mul product.a product.b out)
  value : product.c ≡ c + j

product_is : (a b : Product) → Some a ≡ Some b → a ≡ b
product_is a b e = cc

mul_of : (c : ℕ) (gates : List ArithRow) (j : ℕ) (product : Product) → slice_get (products_from c gates) j ≡ Some product → HasMul c gates j product
mul_of c [] j product stands = none_in j product stands
mul_of c (Add a b out ∷ gates) j product stands =
    let rest = mul_of c gates j product stands in record { number = suc rest.number; out = rest.out; stands = rest.stands; value = rest.value }
mul_of c (Mul a b out ∷ gates) zero product stands =
    let same = product_is (record { a = a; b = b; c = c }) product stands in
    record {
      number = 0;
      out = out;
      stands = λ i. Some (Mul (same i).a (same i).b out);
      value = sym (ap (λ (p : Product). p.c) same) ∙ sym (add-zero c);
    }
mul_of c (Mul a b out ∷ gates) (suc j) product stands =
    let rest = mul_of (c + 1) gates j product stands in
    record { number = suc rest.number; out = rest.out; stands = rest.stands; value = omega (arith, rest.value) }
mul_of c (Const value out ∷ gates) j product stands =
    let rest = mul_of c gates j product stands in record { number = suc rest.number; out = rest.out; stands = rest.stands; value = rest.value }
mul_of c (Assert a ∷ gates) j product stands =
    let rest = mul_of c gates j product stands in record { number = suc rest.number; out = rest.out; stands = rest.stands; value = rest.value }

-- products have the given values behind the inputs, in order
pub product_numbered : (circuit : Arith) (i : ℕ) (product : Product) → slice_get (arith_program circuit).products i ≡ Some product
    → product.c ≡ circuit.inputs + i
product_numbered circuit i product stands = (mul_of circuit.inputs circuit.gates i product stands).value

-- a MUL takes a product that is there
taken_within : (c : ℕ) (gates : List ArithRow) (k a b out : ℕ) → slice_get gates k ≡ Some (Mul a b out) → products_to c gates k < length (products_from c gates)
taken_within c [] k a b out stands = none_in k (Mul a b out) stands
taken_within c (Add d e f ∷ gates) zero a b out stands = absurd cc
taken_within c (Mul d e f ∷ gates) zero a b out stands = omega arith
taken_within c (Const d f ∷ gates) zero a b out stands = absurd cc
taken_within c (Assert d ∷ gates) zero a b out stands = absurd cc
taken_within c (Add d e f ∷ gates) (suc k) a b out stands = taken_within c gates k a b out stands
taken_within c (Mul d e f ∷ gates) (suc k) a b out stands = let rest = taken_within (c + 1) gates k a b out stands in omega (arith, rest)
taken_within c (Const d f ∷ gates) (suc k) a b out stands = taken_within c gates k a b out stands
taken_within c (Assert d ∷ gates) (suc k) a b out stands = taken_within c gates k a b out stands

-- ---- the program

step_formed : (circuit : Arith) (n : ℕ) (step : Step) → IsWellFormed circuit → slice_get (arith_program circuit).steps n ≡ Some step → IsStep (arith_program circuit) n step
step_formed circuit n step formed stands =
    let by = gate_of circuit.inputs circuit.gates n step stands in
    subst (λ (m : ℕ). IsStep (arith_program circuit) m step) by.at (of by.number by.gate by.stands (formed.gates_fit by.number by.gate by.stands) by.is)
  where
    set : (k wire : ℕ) → is_set circuit.inputs (take k circuit.gates) wire ≡ true → IsSet (arith_program circuit) (place_of circuit k) wire
    set k wire is = to_step circuit k wire is

    free : (k wire : ℕ) → is_set circuit.inputs (take k circuit.gates) wire ≡ false → ¬ IsSet (arith_program circuit) (place_of circuit k) wire
    free k wire off before = let no : true ≡ false = sym (from_step circuit k wire before) ∙ off in absurd cc

    of : (k : ℕ) (gate : ArithRow) → slice_get circuit.gates k ≡ Some gate → MayCome circuit (take k circuit.gates) gate
        → IsStepOf (circuit.inputs + products_to circuit.inputs circuit.gates k) gate step → IsStep (arith_program circuit) (place_of circuit k) step
    of k (Add a b out) at may is = subst (IsStep (arith_program circuit) (place_of circuit k)) (sym is) (record {
      reads = All-from_recursion (λ term. IsSet (arith_program circuit) (place_of circuit k) term.place) (once a ∷ once b ∷ []) (set k a may.0.1, (set k b may.1.1, tt));
      takes = All-nil (λ term. term.place < (arith_program circuit).givens);
      factors = (All-from_recursion (λ term. IsElement term.factor) (once a ∷ once b ∷ []) (lit< tt, (lit< tt, tt)), All-nil (λ term. IsElement term.factor));
      constant = lit< tt;
      within = may.2.0;
      once = free k out may.2.1;
    })
    of k (Mul a b out) at may is = subst (IsStep (arith_program circuit) (place_of circuit k)) (sym is) (record {
      reads = All-nil (λ term. IsSet (arith_program circuit) (place_of circuit k) term.place);
      takes = All-from_recursion (λ term. term.place < (arith_program circuit).givens) (once (circuit.inputs + products_to circuit.inputs circuit.gates k) ∷ [])
          (omega (arith, taken_within circuit.inputs circuit.gates k a b out at), tt);
      factors = (All-nil (λ term. IsElement term.factor), All-from_recursion (λ term. IsElement term.factor) (once (circuit.inputs + products_to circuit.inputs circuit.gates k) ∷ []) (lit< tt, tt));
      constant = lit< tt;
      within = may.2.0;
      once = free k out may.2.1;
    })
    of k (Const value out) at may is = subst (IsStep (arith_program circuit) (place_of circuit k)) (sym is) (record {
      reads = All-nil (λ term. IsSet (arith_program circuit) (place_of circuit k) term.place);
      takes = All-nil (λ term. term.place < (arith_program circuit).givens);
      factors = (All-nil (λ term. IsElement term.factor), All-nil (λ term. IsElement term.factor));
      constant = may.0;
      within = may.1.0;
      once = free k out may.1.1;
    })
    of k (Assert a) at may is = absurd is

product_formed : (circuit : Arith) (j : ℕ) (product : Product) → IsWellFormed circuit → slice_get (arith_program circuit).products j ≡ Some product → IsProduct (arith_program circuit) product
product_formed circuit j product formed stands =
    let by = mul_of circuit.inputs circuit.gates j product stands in
    let may = formed.gates_fit by.number (Mul product.a product.b by.out) by.stands in
    let within = slice_get_within circuit.gates by.number (Mul product.a product.b by.out) by.stands in
    let below = slice_get_within (products_from circuit.inputs circuit.gates) j product stands in
    record {
      left = in_all circuit by.number product.a (omega (arith, within)) may.0.1;
      right = in_all circuit by.number product.b (omega (arith, within)) may.1.1;
      value = omega (arith, by.value, below);
    }

made_once : (circuit : Arith) (j : ℕ) → circuit.inputs ≤ j → j < (arith_program circuit).givens → IsMadeOnce (arith_program circuit) j
made_once circuit j low high =
    let n : ℕ = j - circuit.inputs in
    let product : Product = get_or (products_from circuit.inputs circuit.gates) n (record { a = 0; b = 0; c = 0 }) in
    let stands : slice_get (products_from circuit.inputs circuit.gates) n ≡ Some product =
    slice_get-get_or (products_from circuit.inputs circuit.gates) n (record { a = 0; b = 0; c = 0 }) (omega (arith, low, high)) in
    let by = mul_of circuit.inputs circuit.gates n product stands in
    record {
      number = n;
      made = record { product = product; stands = stands; value = omega (arith, by.value, low) };
      once = λ other made. let own = mul_of circuit.inputs circuit.gates other made.product made.stands in omega (arith, own.value, made.value, low);
    }

all_of : (P : Product → Type 0) (products : List Product) → ((j : ℕ) (product : Product) → slice_get products j ≡ Some product → P product) → All P products
all_of P products each j d below = each j (get_or products j d) (slice_get-get_or products j d below)

all_numbers : (P : ℕ → Type 0) (numbers : List ℕ) → ((j n : ℕ) → slice_get numbers j ≡ Some n → P n) → All P numbers
all_numbers P numbers each j d below = each j (get_or numbers j d) (slice_get-get_or numbers j d below)

range_set : (circuit : Arith) → IsWellFormed circuit → All (IsSetInAll (arith_program circuit)) (range_with_len (first_output circuit) circuit.outputs)
range_set circuit formed j d below =
    let inside : j < circuit.outputs = omega (arith, below, length-range (first_output circuit) circuit.outputs) in
    subst (IsSetInAll (arith_program circuit)) (sym (get_or-range_with_len (first_output circuit) circuit.outputs j d inside))
    (in_all circuit (length circuit.gates) (first_output circuit + j) (omega arith) (output_set circuit j formed inside))

pub arith_is_program : ArithIsProgram
arith_is_program circuit formed = record {
  first = omega (arith, formed.inputs_within);
  inputs = omega arith;
  steps = λ n step stands. step_formed circuit n step formed stands;
  products = all_of (IsProduct (arith_program circuit)) (products_from circuit.inputs circuit.gates) (λ j product stands. product_formed circuit j product formed stands);
  made = made_once circuit;
  opened = All-append (IsSetInAll (arith_program circuit)) (range_with_len (first_output circuit) circuit.outputs) (asserted circuit) (range_set circuit formed)
      (all_numbers (IsSetInAll (arith_program circuit)) (asserted circuit) (λ j wire stands.
      let at = assert_of circuit.gates j wire stands in
      let may = formed.gates_fit at.number (Assert wire) at.stands in
      in_all circuit at.number wire (omega (arith, slice_get_within circuit.gates at.number (Assert wire) at.stands)) may.1));
}

-- ---- products come before they are taken

-- the product of a MUL
product_at : (c : ℕ) (gates : List ArithRow) (k a b out : ℕ) → slice_get gates k ≡ Some (Mul a b out)
    → (product : Product) × (slice_get (products_from c gates) (products_to c gates k) ≡ Some product) × (product.a ≡ a) × (product.b ≡ b)
product_at c [] k a b out stands = none_in k (Mul a b out) stands
product_at c (Add d e f ∷ gates) zero a b out stands = absurd cc
product_at c (Mul d e f ∷ gates) zero a b out stands = (record { a = d; b = e; c = c }, refl, left d e f a b out stands, right d e f a b out stands)
  where
    left : (d e f a b out : ℕ) → Some (Mul d e f) ≡ Some (Mul a b out) → d ≡ a
    left d e f a b out same = cc

    right : (d e f a b out : ℕ) → Some (Mul d e f) ≡ Some (Mul a b out) → e ≡ b
    right d e f a b out same = cc
product_at c (Const d f ∷ gates) zero a b out stands = absurd cc
product_at c (Assert d ∷ gates) zero a b out stands = absurd cc
product_at c (Add d e f ∷ gates) (suc k) a b out stands = product_at c gates k a b out stands
product_at c (Mul d e f ∷ gates) (suc k) a b out stands = product_at (c + 1) gates k a b out stands
product_at c (Const d f ∷ gates) (suc k) a b out stands = product_at c gates k a b out stands
product_at c (Assert d ∷ gates) (suc k) a b out stands = product_at c gates k a b out stands

pub arith_is_ordered : ArithIsOrdered
arith_is_ordered circuit formed n step stands =
    let by = gate_of circuit.inputs circuit.gates n step stands in
    subst (λ (m : ℕ). All (IsMadeBefore (arith_program circuit) m) step.given) by.at (of by.number by.gate by.stands (formed.gates_fit by.number by.gate by.stands) by.is)
  where
    before : (k a b out : ℕ) → slice_get circuit.gates k ≡ Some (Mul a b out) → MayCome circuit (take k circuit.gates) (Mul a b out)
        → IsMadeBefore (arith_program circuit) (place_of circuit k) (once (circuit.inputs + products_to circuit.inputs circuit.gates k))
    before k a b out at may number product there value low =
        let own = product_at circuit.inputs circuit.gates k a b out at in
        let place = (mul_of circuit.inputs circuit.gates number product there).value in
        let same : number ≡ products_to circuit.inputs circuit.gates k = omega (arith, place, value) in
        let one : product ≡ own.0 = product_is product own.0 (sym there ∙ ap (slice_get (products_from circuit.inputs circuit.gates)) same ∙ own.1) in (
          subst (IsSet (arith_program circuit) (place_of circuit k)) (sym (ap (λ (p : Product). p.a) one ∙ own.2)) (to_step circuit k a may.0.1),
          subst (IsSet (arith_program circuit) (place_of circuit k)) (sym (ap (λ (p : Product). p.b) one ∙ own.3)) (to_step circuit k b may.1.1),
        )

    of : (k : ℕ) (gate : ArithRow) → slice_get circuit.gates k ≡ Some gate → MayCome circuit (take k circuit.gates) gate
        → IsStepOf (circuit.inputs + products_to circuit.inputs circuit.gates k) gate step → All (IsMadeBefore (arith_program circuit) (place_of circuit k)) step.given
    of k (Add a b out) at may is = subst (λ (s : Step). All (IsMadeBefore (arith_program circuit) (place_of circuit k)) s.given) (sym is) (All-nil (IsMadeBefore (arith_program circuit) (place_of circuit k)))
    of k (Mul a b out) at may is =
        subst (λ (s : Step). All (IsMadeBefore (arith_program circuit) (place_of circuit k)) s.given) (sym is)
        (All-cons (IsMadeBefore (arith_program circuit) (place_of circuit k)) (once (circuit.inputs + products_to circuit.inputs circuit.gates k)) [] (before k a b out at may)
        (All-nil (IsMadeBefore (arith_program circuit) (place_of circuit k))))
    of k (Const value out) at may is = subst (λ (s : Step). All (IsMadeBefore (arith_program circuit) (place_of circuit k)) s.given) (sym is) (All-nil (IsMadeBefore (arith_program circuit) (place_of circuit k)))
    of k (Assert a) at may is = absurd is
