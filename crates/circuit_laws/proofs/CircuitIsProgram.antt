-- A circuit, with some of its first inputs public, is a program.
use Rattle.std.proofs.Common.{◌≡◌, ℕ, zero, suc, Bool, true, false, ◌+◌, ◌-◌, ◌<◌, ◌≤◌, List, [], ◌∷◌, ◌++◌, length, map, flat_map, refl, sym, ap, ◌∙◌, arith, subst, inl, inr, zero-add, lit<}
use Rattle.std.specs.Prelude.{Some, All, slice_get, get_or}
use Rattle.zk_model.specs.Bits.{from_bit}
use Rattle.zk_model.proofs.SetWires.{set_later}
use Rattle.circuit_laws.proofs.Ranges.{range-append}
use Rattle.std.specs.List.{range_with_len}
use Rattle.std.proofs.lemmas.List.{length-map, get_or-map, map-append}
use Rattle.std.proofs.lemmas.List.Elements.{All-nil, All-cons, All-append, All-map}
use Rattle.std.proofs.lemmas.List.FromFn.{length-range_with_len, get_or-range_with_len}
use Rattle.std.proofs.lemmas.Option.{slice_get_within, get_or_from_slice_get, slice_get-get_or}
use Rattle.zk_model.specs.Field.{IsElement, prime}
use Rattle.zk_model.specs.Circuit as boolean
use Rattle.zk_model.specs.Circuit.{Circuit, IsWellFormed, wire_set, wires_read, output_wire}
use Rattle.zk_model.specs.Program.{Term, Step, Program, IsSet, IsSetInAll, IsStep, IsProduct, IsMadeOnce}
use Rattle.zk_model.specs.Boolean.{once, less_once, less_twice, gate_step, gate_products, products_in, private_inputs, given_of_gate, bit_check, circuit_products, circuit_program}
use Rattle.circuit_laws.specs.Circuits.{CircuitIsProgram}
use Rattle.circuit_laws.proofs.ByGate.{from_given, length-from_given, products_of_all, one_more_gate, by_gate_is, gate_of_item, item_of_gate, product_within}
use Rattle.zk_model.specs.declared.GateRow.{GateRow}
use Rattle.zk_model.specs.declared.GateRow.TheVariants.{And, Xor, Inv, Eqw, Eq}
use Rattle.zk_model.specs.declared.Product.{Product}

-- ---- which wires are set

-- a step sets the wire that its gate does
pub step_sets : (c : ℕ) (gate : GateRow) → (gate_step c gate).out ≡ wire_set gate
step_sets c (And a b out) = refl
step_sets c (Xor a b out) = refl
step_sets c (Inv a out) = refl
step_sets c (Eqw a out) = refl
step_sets c (Eq bit out) = refl

-- step n of the program is that of gate n
pub step_of_gate : (public : ℕ) (circuit : Circuit) (n : ℕ) (gate : GateRow) → slice_get circuit.gates n ≡ Some gate
    → slice_get (circuit_program public circuit).steps n ≡ Some (gate_step (given_of_gate public circuit n) gate)
step_of_gate public circuit n gate at =
    ap (λ (steps : List Step). slice_get steps n) (by_gate_is gate_step public circuit)
    ∙ item_of_gate gate_step (private_inputs public circuit) n circuit.gates gate at

-- and the other way round
pub gate_of_step : (public : ℕ) (circuit : Circuit) (n : ℕ) (step : Step) → slice_get (circuit_program public circuit).steps n ≡ Some step
    → (gate : GateRow) × (slice_get circuit.gates n ≡ Some gate) × (step ≡ gate_step (given_of_gate public circuit n) gate)
gate_of_step public circuit n step at =
    gate_of_item gate_step (private_inputs public circuit) n circuit.gates step
    (sym (ap (λ (steps : List Step). slice_get steps n) (by_gate_is gate_step public circuit)) ∙ at)

-- a wire that the circuit sets is set in the program
pub set_in_program : (public : ℕ) (circuit : Circuit) (n wire : ℕ) → public ≤ circuit.inputs → boolean.IsSet circuit n wire
    → IsSet (circuit_program public circuit) n wire
set_in_program public circuit n wire few (inl input) = inl (omega (arith, input))
set_in_program public circuit n wire few (inr by) =
    inr (
      by.0,
      gate_step (given_of_gate public circuit by.0) by.1,
      by.2,
      step_of_gate public circuit by.0 by.1 by.3,
      step_sets (given_of_gate public circuit by.0) by.1 ∙ by.4,
    )

-- and the other way round
pub set_in_circuit : (public : ℕ) (circuit : Circuit) (n wire : ℕ) → public ≤ circuit.inputs
    → IsSet (circuit_program public circuit) n wire → boolean.IsSet circuit n wire
set_in_circuit public circuit n wire few (inl input) = inl (omega (arith, input))
set_in_circuit public circuit n wire few (inr by) =
    let found = gate_of_step public circuit by.0 by.1 by.3 in
    inr (
      by.0,
      found.0,
      by.2,
      found.1,
      sym (step_sets (given_of_gate public circuit by.0) found.0) ∙ sym (ap (λ (step : Step). step.out) found.2) ∙ by.4,
    )

-- as many steps as gates
pub length_of_steps : (public : ℕ) (circuit : Circuit) → length (circuit_program public circuit).steps ≡ length circuit.gates
length_of_steps public circuit = let e = by_gate_is gate_step public circuit in ap length e ∙ length-from_given gate_step (private_inputs public circuit) circuit.gates

-- ---- steps

none : {A : Type 0} (P : A → Type 0) → All P []
none P = All-nil P

only : {A : Type 0} (P : A → Type 0) (a : A) → P a → All P (a ∷ [])
only P a holds = All-cons P a [] holds (All-nil P)

two : {A : Type 0} (P : A → Type 0) (a b : A) → P a → P b → All P (a ∷ b ∷ [])
two P a b left right = All-cons P a (b ∷ []) left (only P b right)

bit_is_element : (bit : Bool) → IsElement (from_bit bit)
bit_is_element false = lit< tt
bit_is_element true = lit< tt

abbrev Reads : Program → ℕ → Term → Type 0
Reads program n term = IsSet program n term.place

abbrev Takes : Program → Term → Type 0
Takes program term = term.place < program.givens

abbrev HasFactor : Term → Type 0
HasFactor term = IsElement term.factor

small : (place factor : ℕ) → factor < prime → HasFactor (record { factor = factor; place = place })
small place factor below = below

-- a step that adds one wire, and no given value
one_read : (program : Program) (n out constant : ℕ) (term : Term) → Reads program n term → HasFactor term → IsElement constant
    → out < program.wires → ¬ IsSet program n out
    → IsStep program n (record { out = out; wires = term ∷ []; given = []; constant = constant })
one_read program n out constant term reads factor element within unset = record {
  reads = only (Reads program n) term reads;
  takes = none (Takes program);
  factors = (only HasFactor term factor, none HasFactor);
  constant = element;
  within = within;
  once = unset;
}

-- the step of a gate whose wires are set and whose given value is given
step_is : (program : Program) (c n : ℕ) (gate : GateRow) → All (IsSet program n) (wires_read gate) → c + products_in gate ≤ program.givens
    → wire_set gate < program.wires → ¬ IsSet program n (wire_set gate) → IsStep program n (gate_step c gate)
step_is program c n (And a b out) reads given within unset = let fits : c < program.givens = omega (arith, given) in record {
  reads = none (Reads program n);
  takes = only (Takes program) (once c) fits;
  factors = (none HasFactor, only HasFactor (once c) (small c 1 (lit< tt)));
  constant = lit< tt;
  within = within;
  once = unset;
}
step_is program c n (Xor a b out) reads given within unset = let fits : c < program.givens = omega (arith, given) in record {
  reads = two (Reads program n) (once a) (once b) (reads 0 0 (lit< tt)) (reads 1 0 (lit< tt));
  takes = only (Takes program) (less_twice c) fits;
  factors = (two HasFactor (once a) (once b) (small a 1 (lit< tt)) (small b 1 (lit< tt)), only HasFactor (less_twice c) (small c (prime - 2) (lit< tt)));
  constant = lit< tt;
  within = within;
  once = unset;
}
step_is program c n (Inv a out) reads given within unset =
    one_read program n out 1 (less_once a) (reads 0 0 (lit< tt)) (small a (prime - 1) (lit< tt)) (lit< tt) within unset
step_is program c n (Eqw a out) reads given within unset =
    one_read program n out 0 (once a) (reads 0 0 (lit< tt)) (small a 1 (lit< tt)) (lit< tt) within unset
step_is program c n (Eq bit out) reads given within unset = record {
  reads = none (Reads program n);
  takes = none (Takes program);
  factors = (none HasFactor, none HasFactor);
  constant = bit_is_element bit;
  within = within;
  once = unset;
}

-- what all elements meet, all meet that follows
weaker : {A : Type 0} (P Q : A → Type 0) (xs : List A) → ((a : A) → P a → Q a) → All P xs → All Q xs
weaker P Q xs follows holds k d below = follows _ (holds k d below)

steps_are : (public : ℕ) (circuit : Circuit) → IsWellFormed circuit → public ≤ circuit.inputs
    → (n : ℕ) (step : Step) → slice_get (circuit_program public circuit).steps n ≡ Some step → IsStep (circuit_program public circuit) n step
steps_are public circuit formed few n step at =
    let program = circuit_program public circuit in
    let found = gate_of_step public circuit n step at in
    let fits : given_of_gate public circuit n + products_in found.0 ≤ program.givens = omega (arith, product_within n circuit.gates found.0 found.1) in
    subst (IsStep program n) (sym found.2)
    (step_is program (given_of_gate public circuit n) n found.0
    (weaker (boolean.IsSet circuit n) (IsSet program n) (wires_read found.0) (λ wire. set_in_program public circuit n wire few) (formed.reads_set n found.0 found.1))
    fits (formed.sets_within n found.0 found.1)
    (λ set. formed.sets_once n found.0 found.1 (set_in_circuit public circuit n (wire_set found.0) few set)))

-- ---- products

-- the products of the gates, from given value c on
abbrev pub gate_products_from : ℕ → List GateRow → List Product
gate_products_from c gates = flat_map (λ products. products) (from_given gate_products c gates)

-- where the factors of all gates are set, the products of the gates from given value c on are products of the program
gate_products_are : (program : Program) (c : ℕ) (gates : List GateRow)
    → ((n : ℕ) (gate : GateRow) → slice_get gates n ≡ Some gate → All (IsSetInAll program) (wires_read gate))
    → c + products_of_all gates ≤ program.givens → All (IsProduct program) (gate_products_from c gates)
gate_products_are program c [] reads given = none (IsProduct program)
gate_products_are program c (gate ∷ gates) reads given =
    let later : c + products_in gate + products_of_all gates ≤ program.givens = omega (arith, one_more_gate gate gates, given) in
    let own : c + products_in gate ≤ program.givens = omega (arith, later) in
    All-append (IsProduct program) (gate_products c gate) (gate_products_from (c + products_in gate) gates)
    (one_gate program c gate (reads zero gate refl) own)
    (gate_products_are program (c + products_in gate) gates (λ n. reads (suc n)) later)
  where
    one_gate : (program : Program) (c : ℕ) (gate : GateRow) → All (IsSetInAll program) (wires_read gate)
        → c + products_in gate ≤ program.givens → All (IsProduct program) (gate_products c gate)
    one_gate program c (And a b out) reads given =
        let fits : c < program.givens = omega (arith, given) in
        only (IsProduct program) (record { a = a; b = b; c = c }) (record { left = reads 0 0 (lit< tt); right = reads 1 0 (lit< tt); value = fits })
    one_gate program c (Xor a b out) reads given =
        let fits : c < program.givens = omega (arith, given) in
        only (IsProduct program) (record { a = a; b = b; c = c }) (record { left = reads 0 0 (lit< tt); right = reads 1 0 (lit< tt); value = fits })
    one_gate program c (Inv a out) reads given = none (IsProduct program)
    one_gate program c (Eqw a out) reads given = none (IsProduct program)
    one_gate program c (Eq bit out) reads given = none (IsProduct program)

-- a bit check is a product of the program
bit_checks_are : (program : Program) (n : ℕ) → n ≤ program.inputs → n ≤ program.givens
    → All (IsProduct program) (map (bit_check program.public) (range_with_len 0 n))
bit_checks_are program n few given = All-map (IsProduct program) (bit_check program.public) (range_with_len 0 n) at
  where
    at : All (λ i. IsProduct program (bit_check program.public i)) (range_with_len 0 n)
    at k d below =
        let less : k < n = omega (arith, length-range_with_len 0 n, below) in
        let is = get_or-range_with_len 0 n k d less in
        let i = get_or (range_with_len 0 n) k d in
        let fits : i < program.givens = omega (arith, is) in
        let input : program.public + i < program.public + program.inputs = omega (arith, is) in
        record { left = inl input; right = inl input; value = fits }

-- ---- product i has given value i

-- the products of the gates have the given values from c on, one after another
count_of_products : (c : ℕ) (gates : List GateRow) → map (λ product. product.c) (gate_products_from c gates) ≡ range_with_len c (products_of_all gates)
count_of_products c [] = refl
count_of_products c (gate ∷ gates) =
    map-append value_of (gate_products c gate) (gate_products_from (c + products_in gate) gates)
    ∙ (λ i. own c gate i ++ count_of_products (c + products_in gate) gates i)
    ∙ sym (range-append c (products_in gate) (products_of_all gates))
    ∙ ap (range_with_len c) (sym (one_more_gate gate gates))
  where
    value_of : Product → ℕ
    value_of product = product.c

    own : (c : ℕ) (gate : GateRow) → map value_of (gate_products c gate) ≡ range_with_len c (products_in gate)
    own c (And a b out) = refl
    own c (Xor a b out) = refl
    own c (Inv a out) = refl
    own c (Eqw a out) = refl
    own c (Eq bit out) = refl

-- product i of a circuit has given value i
pub numbered : (public : ℕ) (circuit : Circuit)
    → map (λ product. product.c) (circuit_program public circuit).products ≡ range_with_len 0 (circuit_program public circuit).givens
numbered public circuit =
    let checks = map (bit_check public) (range_with_len 0 (private_inputs public circuit)) in
    let value_of : Product → ℕ = λ product. product.c in
    ap (λ (products : List (List Product)). map value_of (checks ++ flat_map (λ list. list) products)) (by_gate_is gate_products public circuit)
    ∙ map-append value_of checks (gate_products_from (private_inputs public circuit) circuit.gates)
    ∙ (λ i. own (private_inputs public circuit) i ++ count_of_products (private_inputs public circuit) circuit.gates i)
    ∙ ap (λ k. range_with_len 0 (private_inputs public circuit) ++ range_with_len k (products_of_all circuit.gates)) (sym (zero-add (private_inputs public circuit)))
    ∙ sym (range-append 0 (private_inputs public circuit) (products_of_all circuit.gates))
  where
    numbers_are : (a n : ℕ) → map (λ product. product.c) (map (bit_check public) (range_with_len a n)) ≡ range_with_len a n
    numbers_are a zero = refl
    numbers_are a (suc n) = ap (λ l. a ∷ l) (numbers_are (a + 1) n)

    own : (n : ℕ) → map (λ product. product.c) (map (bit_check public) (range_with_len 0 n)) ≡ range_with_len 0 n
    own n = numbers_are 0 n

-- ---- the whole program

abbrev c_of : Product → ℕ
c_of product = product.c

-- the given value of product n is n
pub nth_value : (products : List Product) (count n : ℕ) (product : Product) → map c_of products ≡ range_with_len 0 count
    → slice_get products n ≡ Some product → product.c ≡ n
nth_value products count n product are at =
    let below : n < length products = slice_get_within products n product at in
    let sized : length products ≡ count = sym (length-map products c_of) ∙ ap length are ∙ length-range_with_len 0 count in
    let less : n < count = omega (arith, sized) in
    sym (ap c_of (get_or_from_slice_get products n product product at)) ∙ sym (get_or-map c_of products n product 0 below)
    ∙ ap (λ (l : List ℕ). get_or l n 0) are ∙ get_or-range_with_len 0 count n 0 less ∙ zero-add n

-- so each given value is that of one product
made_once : (program : Program) → map c_of program.products ≡ range_with_len 0 program.givens → (j : ℕ) → j < program.givens → IsMadeOnce program j
made_once program are j below =
    let sized : length program.products ≡ program.givens = sym (length-map program.products c_of) ∙ ap length are ∙ length-range_with_len 0 program.givens in
    let less : j < length program.products = omega (arith, sized) in
    let product = get_or program.products j (record { a = 0; b = 0; c = 0 }) in
    let at : slice_get program.products j ≡ Some product = slice_get-get_or program.products j (record { a = 0; b = 0; c = 0 }) less in
    record {
      number = j;
      made = record { product = product; stands = at; value = nth_value program.products program.givens j product are at };
      once = λ other of. sym (nth_value program.products program.givens other of.product are of.stands) ∙ of.value;
    }

-- the wires that a circuit's gate reads are set in the end
read_in_end : (public : ℕ) (circuit : Circuit) → IsWellFormed circuit → public ≤ circuit.inputs
    → (n : ℕ) (gate : GateRow) → slice_get circuit.gates n ≡ Some gate → All (IsSetInAll (circuit_program public circuit)) (wires_read gate)
read_in_end public circuit formed few n gate at k d below =
    let program = circuit_program public circuit in
    let early : n ≤ length program.steps = omega (arith, slice_get_within circuit.gates n gate at, length_of_steps public circuit) in
    set_later program n (length program.steps) (get_or (wires_read gate) k d) early
    (set_in_program public circuit n (get_or (wires_read gate) k d) few (formed.reads_set n gate at k d below))

-- and so is an output
output_in_end : (public : ℕ) (circuit : Circuit) → IsWellFormed circuit → public ≤ circuit.inputs
    → (o : ℕ) → o < circuit.outputs → IsSetInAll (circuit_program public circuit) (output_wire circuit o)
output_in_end public circuit formed few o below =
    ap_steps (set_in_program public circuit (length circuit.gates) (output_wire circuit o) few (formed.outputs_set o below))
  where
    ap_steps : IsSet (circuit_program public circuit) (length circuit.gates) (output_wire circuit o)
        → IsSetInAll (circuit_program public circuit) (output_wire circuit o)
    ap_steps set = subst (λ (n : ℕ). IsSet (circuit_program public circuit) n (output_wire circuit o)) (sym (length_of_steps public circuit)) set

products_are : (public : ℕ) (circuit : Circuit) → IsWellFormed circuit → public ≤ circuit.inputs
    → All (IsProduct (circuit_program public circuit)) (circuit_products public circuit)
products_are public circuit formed few =
    let program = circuit_program public circuit in
    let private = private_inputs public circuit in
    let given : private ≤ program.givens = omega arith in
    let all : private + products_of_all circuit.gates ≤ program.givens = omega arith in
    let gates : All (IsProduct program) (gate_products_from private circuit.gates) =
    gate_products_are program private circuit.gates (read_in_end public circuit formed few) all in
    All-append (IsProduct program) (map (bit_check public) (range_with_len 0 private)) _
    (bit_checks_are program private (omega arith) given)
    (subst (λ (lists : List (List Product)). All (IsProduct program) (flat_map (λ list. list) lists)) (sym (by_gate_is gate_products public circuit)) gates)

pub circuit_is_program : CircuitIsProgram
circuit_is_program public circuit formed few = record {
  first = let within = formed.inputs_within in omega (arith, few);
  inputs = omega arith;
  steps = steps_are public circuit formed few;
  products = products_are public circuit formed few;
  made = λ j low below. made_once (circuit_program public circuit) (numbered public circuit) j below;
  opened = All-map (IsSetInAll (circuit_program public circuit)) (output_wire circuit) (range_with_len 0 circuit.outputs) outputs;
}
  where
    outputs : All (λ o. IsSetInAll (circuit_program public circuit) (output_wire circuit o)) (range_with_len 0 circuit.outputs)
    outputs k d below =
        let less : k < circuit.outputs = omega (arith, length-range_with_len 0 circuit.outputs, below) in
        let is = get_or-range_with_len 0 circuit.outputs k d less in
        output_in_end public circuit formed few (get_or (range_with_len 0 circuit.outputs) k d) (omega (arith, is))
