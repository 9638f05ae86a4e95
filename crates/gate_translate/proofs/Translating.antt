-- From the packed gates of a circuit to its program.
use Rattle.std.proofs.Common.{◌≡◌, ℕ, suc, ◌+◌, ◌-◌, ◌<◌, ◌≤◌, List, [], ◌∷◌, ◌++◌, length, map, flat_map, drop, inl, refl, sym, ap, ◌∙◌, arith, subst, add-zero, length-append}
use Rattle.std.specs.Prelude.{sum_by, Some, slice_get}
use Rattle.std.proofs.lemmas.Option.{get_or_from_slice_get}
use Rattle.std.specs.List.{range_with_len}
use Rattle.std.proofs.lemmas.List.{length-map, get_or_append_left}
use Rattle.std.proofs.lemmas.List.Sums.{sum_by-cons}
use Rattle.std.proofs.lemmas.List.FromFn.{length-range_with_len, length-map-range_with_len, get_or-map-range_with_len}
use Rattle.zk_model.specs.Circuit.{Circuit}
use Rattle.zk_model.specs.Program as model
use Rattle.zk_model.specs.Program.{Program}
use Rattle.zk_model.specs.Boolean.{gate_step, gate_products, products_in, private_inputs, bit_check, by_gate, circuit_products, circuit_program}
use Rattle.zk_model.specs.declared.GateRow.{GateRow}
use Rattle.zk_model.specs.declared.GateRow.TheVariants.{And, Xor, Inv, Eqw, Eq}
use Rattle.zk_model.specs.declared.Product.{Product}
use Rattle.circuit_laws.proofs.ByGate.{from_given, by_gate_is, products_of_all}
use Rattle.circuit_laws.specs.Circuits.{CircuitIsProgram, CircuitIsOrdered, GatesAreFew}
use Rattle.bristol_reader.specs.Circuits.{IsCircuit}
use Rattle.packed_gates.specs.PackedSteps.{ArePacked, IsGateRule, IsRule, factors_of, rules_from}
use Rattle.packed_gates.specs.declared.packed.Factors.{Factors}
use Rattle.packed_gates.specs.declared.packed.PackedStep.{PackedStep}
use Rattle.packed_gates.specs.declared.packed.PackedStep.TheVariants as rule
use Rattle.packed_gates.specs.declared.packed.Tables.{Tables}
use Rattle.packed_gates.proofs.Packing.{factors_in, factors_behind, one_over, one_longer}
use Rattle.field_program.proofs.Numbered.{length-products_with}
use Rattle.field_program.specs.Programs.{IsSmallProgram, program_of, products_with, values_taken}
use Rattle.field_program.specs.Rules.{step_of, numbered}
use Rattle.field_program.specs.Steps.{step_equation, equations}
use Rattle.field_program.specs.declared.step.Step.TheVariants as step

-- the products of gates, from given value c on
abbrev pub products_from : ℕ → List GateRow → List Product
products_from c gates = flat_map (λ products. products) (from_given gate_products c gates)

-- the bit checks of the private inputs, behind so many public ones, and the products of gates
abbrev pub products_up_to : ℕ → ℕ → List GateRow → List Product
products_up_to public inputs gates = map (bit_check public) (range_with_len 0 inputs) ++ products_from inputs gates

-- ---- steps and products of packed gates

-- the steps of these gates behind others, whose factors come first in the tables
StepsFrom : ℕ → Tables → List Factors → List GateRow → Type 0
StepsFrom inputs tables before gates =
    equations (map (step_of inputs tables) (rules_from (length before) gates)) ≡ from_given gate_step (inputs + length before) gates

-- those of the other gates, behind one that has a product
steps_behind : (inputs : ℕ) (tables : Tables) (before : List Factors) (next : Factors) (gates : List GateRow) → StepsFrom inputs tables (before ++ next ∷ []) gates
    → equations (map (step_of inputs tables) (rules_from (length before + 1) gates)) ≡ from_given gate_step (inputs + length before + 1) gates
unfolding StepsFrom
steps_behind inputs tables before next gates far =
    ap (λ n. equations (map (step_of inputs tables) (rules_from n gates))) (sym (one_longer before next))
    ∙ far ∙ ap (λ n. from_given gate_step n gates) same
  where
    same : inputs + length (before ++ next ∷ []) ≡ inputs + length before + 1
    same = omega (arith, one_longer before next)

-- and behind one that has none
steps_same : (inputs : ℕ) (tables : Tables) (before : List Factors) (gates : List GateRow) → StepsFrom inputs tables before gates
    → equations (map (step_of inputs tables) (rules_from (length before + 0) gates)) ≡ from_given gate_step (inputs + length before + 0) gates
unfolding StepsFrom
steps_same inputs tables before gates far =
    ap (λ n. equations (map (step_of inputs tables) (rules_from n gates))) (add-zero (length before))
    ∙ far ∙ ap (λ n. from_given gate_step n gates) (sym (add-zero (inputs + length before)))

-- the factors of the next product
next_factors : (tables : Tables) (before : List Factors) (next : Factors) (others : List Factors) → tables.factors.items ≡ before ++ (next ∷ others)
    → factors_of tables.factors.items (length before) ≡ next
next_factors tables before next others are = ap (λ l. factors_of l (length before)) are ∙ factors_behind before next others

steps_are : (inputs : ℕ) (tables : Tables) (before : List Factors) (gates : List GateRow) → tables.factors.items ≡ before ++ factors_in gates
    → StepsFrom inputs tables before gates
unfolding StepsFrom
steps_are inputs tables before [] are = refl
steps_are inputs tables before (And a b out ∷ gates) are =
    let next : Factors = record { a = a; b = b } in
    λ i. gate_step (inputs + length before) (And a b out)
    ∷ steps_behind inputs tables before next gates (steps_are inputs tables (before ++ next ∷ []) gates (are ∙ sym (one_over before next (factors_in gates)))) i
steps_are inputs tables before (Xor a b out ∷ gates) are =
    let next : Factors = record { a = a; b = b } in
    let at = next_factors tables before next (factors_in gates) are in
    λ i. step_equation (step.XorFrom out (at i).a (at i).b (inputs + length before))
    ∷ steps_behind inputs tables before next gates (steps_are inputs tables (before ++ next ∷ []) gates (are ∙ sym (one_over before next (factors_in gates)))) i
steps_are inputs tables before (Inv a out ∷ gates) are =
    λ i. gate_step (inputs + length before) (Inv a out) ∷ steps_same inputs tables before gates (steps_are inputs tables before gates are) i
steps_are inputs tables before (Eqw a out ∷ gates) are =
    λ i. gate_step (inputs + length before) (Eqw a out) ∷ steps_same inputs tables before gates (steps_are inputs tables before gates are) i
steps_are inputs tables before (Eq bit out ∷ gates) are =
    λ i. gate_step (inputs + length before) (Eq bit out) ∷ steps_same inputs tables before gates (steps_are inputs tables before gates are) i

products_are : (c : ℕ) (gates : List GateRow) → numbered c (factors_in gates) ≡ products_from c gates
products_are c [] = refl
products_are c (And a b out ∷ gates) = ap (λ l. record { a = a; b = b; c = c } ∷ l) (products_are (c + 1) gates)
products_are c (Xor a b out ∷ gates) = ap (λ l. record { a = a; b = b; c = c } ∷ l) (products_are (c + 1) gates)
products_are c (Inv a out ∷ gates) = ap (λ n. numbered n (factors_in gates)) (sym (add-zero c)) ∙ products_are (c + 0) gates
products_are c (Eqw a out ∷ gates) = ap (λ n. numbered n (factors_in gates)) (sym (add-zero c)) ∙ products_are (c + 0) gates
products_are c (Eq bit out ∷ gates) = ap (λ n. numbered n (factors_in gates)) (sym (add-zero c)) ∙ products_are (c + 0) gates

-- ---- counts

one_of : (c : ℕ) (gate : GateRow) → length (gate_products c gate) ≡ products_in gate
one_of c (And a b out) = refl
one_of c (Xor a b out) = refl
one_of c (Inv a out) = refl
one_of c (Eqw a out) = refl
one_of c (Eq bit out) = refl

at_most_one : (gate : GateRow) → products_in gate ≤ 1
at_most_one (And a b out) = omega arith
at_most_one (Xor a b out) = omega arith
at_most_one (Inv a out) = omega arith
at_most_one (Eqw a out) = omega arith
at_most_one (Eq bit out) = omega arith

-- as many products as the gates have
count_from : (c : ℕ) (gates : List GateRow) → length (products_from c gates) ≡ products_of_all gates
count_from c [] = refl
count_from c (gate ∷ gates) =
    length-append (gate_products c gate) (products_from (c + products_in gate) gates)
    ∙ (λ i. one_of c gate i + count_from (c + products_in gate) gates i) ∙ sym (sum_by-cons products_in gate gates)

pub few_products : (gates : List GateRow) → products_of_all gates ≤ length gates
few_products [] = omega arith
few_products (gate ∷ gates) = omega (arith, at_most_one gate, few_products gates, sum_by-cons products_in gate gates)

-- the next product is the given value after those that stand
pub next_given : (public inputs : ℕ) (gates : List GateRow) (products : List Product) → products ≡ products_up_to public inputs gates
    → length products ≡ inputs + products_of_all gates
next_given public inputs gates products are =
    ap length are ∙ length-append (map (bit_check public) (range_with_len 0 inputs)) (products_from inputs gates)
    ∙ (λ i. (length-map (range_with_len 0 inputs) (bit_check public) ∙ length-range_with_len 0 inputs) i + count_from inputs gates i)

-- nothing is dropped
drop_none : {A : Type 0} (l : List A) → drop 0 l ≡ l
drop_none [] = refl
drop_none (x ∷ l) = refl

-- ---- all gates

pub is_translated : (circuit : Circuit) (wires public inputs : ℕ) (rules : List PackedStep) (tables : Tables) (opened : List ℕ)
    → wires ≡ circuit.wires → inputs ≡ private_inputs public circuit
    → opened ≡ map (λ o. circuit.wires - circuit.outputs + o) (range_with_len 0 circuit.outputs)
    → ArePacked circuit.gates rules tables.factors.items → program_of wires public inputs 0 rules tables opened ≡ circuit_program public circuit
unfolding StepsFrom
is_translated circuit wires public inputs rules tables opened w private o packed =
    let factors : List Factors = tables.factors.items in
    let base : inputs + 0 ≡ private_inputs public circuit = omega (arith, private) in
    let steps : equations (map (step_of inputs tables) rules) ≡ (circuit_program public circuit).steps =
    ap (λ l. equations (map (step_of inputs tables) l)) packed.rules_are
    ∙ steps_are inputs tables [] circuit.gates packed.factors_are ∙ ap (λ k. from_given gate_step k circuit.gates) base ∙ sym (by_gate_is gate_step public circuit) in
    let up_to : products_with public inputs 0 factors ≡ products_up_to public inputs circuit.gates =
    ap (products_with public inputs 0) packed.factors_are
    ∙ (λ i. drop_none (map (bit_check public) (range_with_len 0 inputs)) i ++ products_are inputs circuit.gates i) in
    let products : products_with public inputs 0 factors ≡ circuit_products public circuit =
    up_to ∙ ap (λ k. products_up_to public k circuit.gates) private
    ∙ ap (λ (lists : List (List Product)). map (bit_check public) (range_with_len 0 (private_inputs public circuit)) ++ flat_map (λ products. products) lists) (sym (by_gate_is gate_products public circuit)) in
    let givens : inputs + length factors ≡ private_inputs public circuit + sum_by products_in circuit.gates =
    omega (arith, next_given public inputs circuit.gates (products_with public inputs 0 factors) up_to, length-products_with public inputs 0 factors (omega arith), private) in
    λ j. record {
      wires = w j;
      public = public;
      inputs = private j;
      steps = steps j;
      givens = givens j;
      products = products j;
      opened = o j;
    }

-- what a Boolean gate's rule names is in the tables
pub gate_rule_within : (tables : Tables) (r : PackedStep) → IsGateRule (length tables.factors.items) r → IsRule tables r
gate_rule_within tables (rule.Bit out value) within = tt
gate_rule_within tables (rule.Copy out a) within = tt
gate_rule_within tables (rule.Not out a) within = tt
gate_rule_within tables (rule.Mul out product) within = within
gate_rule_within tables (rule.XorFrom out product) within = within
gate_rule_within tables (rule.Sum out sum) within = absurd within
gate_rule_within tables (rule.Const out constant) within = absurd within
gate_rule_within tables (rule.Assert a) within = absurd within

-- ---- in order

-- the given values that the gates' steps take
taken_from : (c : ℕ) (gates : List GateRow) → values_taken (from_given gate_step c gates) ≡ range_with_len c (products_of_all gates)
taken_from c [] = refl
taken_from c (gate ∷ gates) =
    first c gate (values_taken (from_given gate_step (c + products_in gate) gates)) (products_of_all gates) (taken_from (c + products_in gate) gates)
    ∙ ap (range_with_len c) (sym (sum_by-cons products_in gate gates))
  where
    one : (c n : ℕ) → c ∷ range_with_len (c + 1) n ≡ range_with_len c (1 + n)
    one c n = let same : suc n ≡ 1 + n = omega arith in ap (range_with_len c) same

    none : (c n : ℕ) → range_with_len (c + 0) n ≡ range_with_len c (0 + n)
    none c n = λ i. range_with_len (add-zero c i) (n_is i)
      where
        n_is : n ≡ 0 + n
        n_is = omega arith

    first : (c : ℕ) (gate : GateRow) (rest : List ℕ) (n : ℕ) → rest ≡ range_with_len (c + products_in gate) n
        → map (λ (term : model.Term). term.place) (gate_step c gate).given ++ rest ≡ range_with_len c (products_in gate + n)
    first c (And a b out) rest n is = ap (λ l. c ∷ l) is ∙ one c n
    first c (Xor a b out) rest n is = ap (λ l. c ∷ l) is ∙ one c n
    first c (Inv a out) rest n is = is ∙ none c n
    first c (Eqw a out) rest n is = is ∙ none c n
    first c (Eq bit out) rest n is = is ∙ none c n

-- the first products are bit checks
checks_first : (public inputs i : ℕ) (others : List Product) (product : Product) → i < inputs
    → slice_get (map (bit_check public) (range_with_len 0 inputs) ++ others) i ≡ Some product → product ≡ bit_check public i
checks_first public inputs i others product below at =
    sym (get_or_from_slice_get (checks ++ others) i product product at)
    ∙ get_or_append_left checks others product i (omega (arith, below, length-map-range_with_len (bit_check public) 0 inputs))
    ∙ get_or-map-range_with_len (bit_check public) 0 inputs i i product below (omega arith)
  where
    checks : List Product
    checks = map (bit_check public) (range_with_len 0 inputs)

pub is_held : (circuit : Circuit) (public : ℕ) (program : Program) → CircuitIsProgram → CircuitIsOrdered → GatesAreFew → IsCircuit circuit
    → public ≤ circuit.inputs → program ≡ circuit_program public circuit
    → ((i : ℕ) (product : Product) → slice_get program.products i ≡ Some product → product.c ≡ i) → IsSmallProgram program
is_held circuit public program law order few rules known same numbers = subst IsSmallProgram (sym same) (record {
  formed = law public circuit rules.well_formed known;
  ordered = order public circuit rules.well_formed known;
  wires = rules.wires;
  givens = omega (arith, few_products circuit.gates, few circuit rules.well_formed, rules.wires);
  products = omega (arith, count, few_products circuit.gates, few circuit rules.well_formed, rules.wires);
  counted = omega (arith, count);
  all_or_none = inl (omega (arith, count));
  numbered = λ i product at. numbers i product (ap (λ (p : Program). slice_get p.products i) same ∙ at) ∙ omega (arith, count);
  opened = omega (
    arith,
    length-map (range_with_len 0 circuit.outputs) (λ o. circuit.wires - circuit.outputs + o),
    length-range_with_len 0 circuit.outputs,
    rules.well_formed.outputs_within,
    rules.wires,
  );
  checks = λ i product at below.
      let number : product.c ≡ i = numbers i product (ap (λ (p : Program). slice_get p.products i) same ∙ at) in
      let is = checks_first public (private_inputs public circuit) i (flat_map (λ products. products) (by_gate public circuit gate_products)) product (omega (arith, number, below)) at in
      (ap (λ (p : Product). p.a) is ∙ omega (arith, number), ap (λ (p : Product). p.b) is ∙ omega (arith, number));
  taken = ap values_taken (by_gate_is gate_step public circuit) ∙ taken_from (private_inputs public circuit) circuit.gates
      ∙ ap (range_with_len (private_inputs public circuit)) (behind (private_inputs public circuit) (products_of_all circuit.gates));
})
  where
    behind : (a b : ℕ) → b ≡ a + b - a
    behind a b = omega arith

    count : length (circuit_products public circuit) ≡ private_inputs public circuit + products_of_all circuit.gates
    count = next_given public (private_inputs public circuit) circuit.gates (circuit_products public circuit)
        (ap (λ (lists : List (List Product)). map (bit_check public) (range_with_len 0 (private_inputs public circuit)) ++ flat_map (λ products. products) lists) (by_gate_is gate_products public circuit))
