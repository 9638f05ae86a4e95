-- From the packed rows of an arithmetic circuit to its program.
use Rattle.std.proofs.Common.{◌≡◌, ℕ, ◌+◌, ◌-◌, ◌<◌, ◌≤◌, inr, List, [], ◌∷◌, ◌++◌, length, map, flat_map, refl, sym, ap, ◌∙◌, arith, subst, add-zero, length-append}
use Rattle.std.specs.Prelude.{All, Some, slice_get, slice_index}
use Rattle.std.specs.List.{range_with_len}
use Rattle.std.proofs.lemmas.List.{drop_all, ext_get_or}
use Rattle.std.proofs.lemmas.List.Elements.{All-head, All-tail, All-nil, All-cons}
use Rattle.std.proofs.lemmas.List.FromFn.{get_or-range_with_len, length-range_with_len, length-map-range_with_len, get_or-map-range_with_len}
use Rattle.std.proofs.Math.Seq.{get_or-append_seam}
use Rattle.zk_model.specs.Arithmetic.{Arith, asserted, first_output, wires_asserted}
use Rattle.zk_model.specs.ArithProgram.{arith_program, products_from, steps_from}
use Rattle.zk_model.specs.ArithTexts.{IsArith}
use Rattle.zk_model.specs.Boolean.{bit_check}
use Rattle.zk_model.specs.Program.{Program, IsProgram}
use Rattle.zk_model.specs.declared.ArithRow.{ArithRow}
use Rattle.zk_model.specs.declared.ArithRow.TheVariants.{Add, Mul, Const, Assert}
use Rattle.zk_model.specs.declared.Product.{Product}
use Rattle.arith_laws.specs.Laws.{ArithIsOrdered, ArithIsProgram}
use Rattle.packed_gates.specs.PackedRows.{AreRowsPacked, Before, IsRowRule, Lists, before_next, lists_of, lists_with, row_factors, row_rules, row_sums, row_constants, with_row}
use Rattle.packed_gates.specs.PackedSteps.{IsRule, factors_of}
use Rattle.packed_gates.specs.declared.packed.Factors.{Factors}
use Rattle.packed_gates.specs.declared.packed.PackedStep.{PackedStep}
use Rattle.packed_gates.specs.declared.packed.PackedStep.TheVariants as rule
use Rattle.packed_gates.specs.declared.packed.Tables.{Tables}
use Rattle.packed_gates.proofs.Packing.{factors_behind}
use Rattle.packed_gates.proofs.RowPacking.{before_more, lists_after, no_lists, one_over, rows_within}
use Rattle.field_program.proofs.Counts.{few_behind_first}
use Rattle.field_program.proofs.Numbered.{length-numbered, numbers_are}
use Rattle.field_program.specs.Programs.{IsSmallProgram, program_of, products_with, values_taken}
use Rattle.field_program.specs.Rules.{step_of, numbered}
use Rattle.field_program.specs.Steps.{equations, step_equation}
use Rattle.field_program.specs.declared.step.Step.TheVariants as step
use Rattle.gate_translate.specs.Assertions.{asserted_among, step_rule, steps_among}

-- ---- steps

-- the steps of rows whose rules name what comes behind these lists
StepsBehind : ℕ → Tables → Lists → List ArithRow → Type 0
StepsBehind inputs tables lists rows =
    equations (map (step_of inputs tables) (steps_among (row_rules (before_next lists) rows))) ≡ steps_from (inputs + length lists.factors) rows

-- those of the other rows, behind one
rest_are : (inputs : ℕ) (tables : Tables) (lists : Lists) (row : ArithRow) (rows : List ArithRow) (next : ℕ)
    → inputs + length (lists.factors ++ row_factors row) ≡ next → StepsBehind inputs tables (lists_with lists row) rows
    → equations (map (step_of inputs tables) (steps_among (row_rules (with_row (before_next lists) row) rows))) ≡ steps_from next rows
unfolding StepsBehind
rest_are inputs tables lists row rows next count far =
    ap (λ b. equations (map (step_of inputs tables) (steps_among (row_rules b rows)))) (sym (before_more lists row))
    ∙ far ∙ ap (λ n. steps_from n rows) count

steps_are : (inputs : ℕ) (tables : Tables) (lists : Lists) (rows : List ArithRow) → lists_of tables ≡ lists_after lists rows → StepsBehind inputs tables lists rows
unfolding StepsBehind
steps_are inputs tables lists [] same = refl
steps_are inputs tables lists (Add a b out ∷ rows) same =
    let row : ArithRow = Add a b out in
    let at : factors_of tables.sums.items (length lists.sums) ≡ record { a = a; b = b } =
    ap (λ (l : Lists). factors_of l.sums (length lists.sums)) same ∙ factors_behind lists.sums (record { a = a; b = b }) (flat_map row_sums rows) in
    λ i. step_equation (step.Add out (at i).a (at i).b)
    ∷ rest_are inputs tables lists row rows (inputs + length lists.factors) (omega (arith, length-append lists.factors (row_factors row)))
    (steps_are inputs tables (lists_with lists row) rows (same ∙ sym (one_over lists row rows))) i
steps_are inputs tables lists (Mul a b out ∷ rows) same =
    let row : ArithRow = Mul a b out in
    λ i. step_equation (step.Mul out a b (inputs + length lists.factors))
    ∷ rest_are inputs tables lists row rows (inputs + length lists.factors + 1) (omega (arith, length-append lists.factors (row_factors row)))
    (steps_are inputs tables (lists_with lists row) rows (same ∙ sym (one_over lists row rows))) i
steps_are inputs tables lists (Const value out ∷ rows) same =
    let row : ArithRow = Const value out in
    let at : slice_index tables.constants.items (length lists.constants) ≡ value =
    ap (λ (l : Lists). slice_index l.constants (length lists.constants)) same ∙ get_or-append_seam lists.constants value (flat_map row_constants rows) 0 in
    λ i. step_equation (step.Const out (at i))
    ∷ rest_are inputs tables lists row rows (inputs + length lists.factors) (omega (arith, length-append lists.factors (row_factors row)))
    (steps_are inputs tables (lists_with lists row) rows (same ∙ sym (one_over lists row rows))) i
steps_are inputs tables lists (Assert a ∷ rows) same =
    let row : ArithRow = Assert a in
    rest_are inputs tables lists row rows (inputs + length lists.factors) (omega (arith, length-append lists.factors (row_factors row)))
    (steps_are inputs tables (lists_with lists row) rows (same ∙ sym (one_over lists row rows)))

-- ---- products, and asserted wires

products_are : (c : ℕ) (rows : List ArithRow) → numbered c (flat_map row_factors rows) ≡ products_from c rows
products_are c [] = refl
products_are c (Add a b out ∷ rows) = products_are c rows
products_are c (Mul a b out ∷ rows) = ap (λ l. record { a = a; b = b; c = c } ∷ l) (products_are (c + 1) rows)
products_are c (Const value out ∷ rows) = products_are c rows
products_are c (Assert a ∷ rows) = products_are c rows

asserted_are : (before : Before) (rows : List ArithRow) → asserted_among (row_rules before rows) ≡ flat_map wires_asserted rows
asserted_are before [] = refl
asserted_are before (Add a b out ∷ rows) = asserted_are (with_row before (Add a b out)) rows
asserted_are before (Mul a b out ∷ rows) = asserted_are (with_row before (Mul a b out)) rows
asserted_are before (Const value out ∷ rows) = asserted_are (with_row before (Const value out)) rows
asserted_are before (Assert a ∷ rows) = ap (λ l. a ∷ l) (asserted_are (with_row before (Assert a)) rows)

-- so many numbers from one on
from_first : (first count : ℕ) → map (λ o. first + o) (range_with_len 0 count) ≡ range_with_len first count
from_first first count =
    ext_get_or 0 (map (λ o. first + o) (range_with_len 0 count)) (range_with_len first count)
    (length-map-range_with_len (λ o. first + o) 0 count ∙ sym (length-range_with_len first count))
    (λ i below. let less : i < count = omega (arith, below, length-map-range_with_len (λ o. first + o) 0 count) in
    get_or-map-range_with_len (λ o. first + o) 0 count i i 0 less (omega arith) ∙ sym (get_or-range_with_len first count i 0 less))

-- no input is checked
none_checked : (inputs : ℕ) (factors : List Factors) → products_with 0 inputs inputs factors ≡ numbered inputs factors
none_checked inputs factors =
    ap (λ l. l ++ numbered inputs factors) (drop_all inputs (map (bit_check 0) (range_with_len 0 inputs))
    (omega (arith, length-map-range_with_len (bit_check 0) 0 inputs)))

-- ---- the whole circuit

pub arith_translated : (circuit : Arith) (wires inputs : ℕ) (rules steps : List PackedStep) (tables : Tables) (outputs opened : List ℕ)
    → wires ≡ circuit.wires → inputs ≡ circuit.inputs → AreRowsPacked circuit.gates rules tables
    → outputs ≡ map (λ o. circuit.wires - circuit.outputs + o) (range_with_len 0 circuit.outputs)
    → steps ≡ steps_among rules → opened ≡ outputs ++ asserted_among rules
    → program_of wires 0 inputs inputs steps tables opened ≡ arith_program circuit
unfolding StepsBehind
arith_translated circuit wires inputs rules steps tables outputs opened w n packed outputs_are steps_are_some opened_are = λ j. record {
  wires = w j;
  public = 0;
  inputs = n j;
  steps = steps_same j;
  givens = givens_same j;
  products = products_same j;
  opened = opened_same j;
}
  where
    lists_same : lists_of tables ≡ lists_after no_lists circuit.gates
    lists_same = λ i. record { factors = packed.factors_are i; sums = packed.sums_are i; constants = packed.constants_are i }

    steps_same : equations (map (step_of inputs tables) steps) ≡ steps_from circuit.inputs circuit.gates
    steps_same =
        ap (λ l. equations (map (step_of inputs tables) l)) (steps_are_some ∙ ap steps_among packed.rules_are)
        ∙ steps_are inputs tables no_lists circuit.gates lists_same
        ∙ ap (λ k. steps_from k circuit.gates) (add-zero inputs ∙ n)

    products_same : products_with 0 inputs inputs tables.factors.items ≡ products_from circuit.inputs circuit.gates
    products_same = none_checked inputs tables.factors.items ∙ ap (numbered inputs) packed.factors_are ∙ products_are inputs circuit.gates
        ∙ ap (λ k. products_from k circuit.gates) n

    givens_same : inputs + length tables.factors.items ≡ circuit.inputs + length (products_from circuit.inputs circuit.gates)
    givens_same = λ i. n i + (sym (length-numbered inputs tables.factors.items) ∙ ap length (sym (none_checked inputs tables.factors.items) ∙ products_same)) i

    opened_same : opened ≡ range_with_len (first_output circuit) circuit.outputs ++ asserted circuit
    opened_same = opened_are
        ∙ (λ i. (outputs_are ∙ from_first (first_output circuit) circuit.outputs) i
        ++ (ap asserted_among packed.rules_are ∙ asserted_are (before_next no_lists) circuit.gates) i)

-- ---- rules within

rule_within : (tables : Tables) (r : PackedStep) (rest : List PackedStep) → IsRowRule (lists_of tables) r → All (IsRule tables) rest
    → All (IsRule tables) (step_rule r ++ rest)
rule_within tables (rule.Bit out value) rest is all = absurd is
rule_within tables (rule.Copy out a) rest is all = absurd is
rule_within tables (rule.Not out a) rest is all = absurd is
rule_within tables (rule.Mul out product) rest is all = All-cons (IsRule tables) (rule.Mul out product) rest is all
rule_within tables (rule.XorFrom out product) rest is all = absurd is
rule_within tables (rule.Sum out sum) rest is all = All-cons (IsRule tables) (rule.Sum out sum) rest is all
rule_within tables (rule.Const out constant) rest is all = All-cons (IsRule tables) (rule.Const out constant) rest is all
rule_within tables (rule.Assert a) rest is all = all

steps_within : (tables : Tables) (rules : List PackedStep) → All (IsRowRule (lists_of tables)) rules → All (IsRule tables) (steps_among rules)
steps_within tables [] all = All-nil (IsRule tables)
steps_within tables (r ∷ rules) all =
    rule_within tables r (steps_among rules) (All-head (IsRowRule (lists_of tables)) r rules all)
    (steps_within tables rules (All-tail (IsRowRule (lists_of tables)) r rules all))

-- what the steps' rules name is in the tables
pub arith_rules_within : (rows : List ArithRow) (rules steps : List PackedStep) (tables : Tables) → AreRowsPacked rows rules tables → steps ≡ steps_among rules
    → All (IsRule tables) steps
arith_rules_within rows rules steps tables packed are =
    subst (All (IsRule tables)) (sym are) (steps_within tables rules (rows_within rows rules tables packed))

-- ---- the program is one that is held

-- each product has a step
few_products : (c : ℕ) (rows : List ArithRow) → length (products_from c rows) ≤ length (steps_from c rows)
few_products c [] = omega arith
few_products c (Add a b out ∷ rows) = omega (arith, few_products c rows)
few_products c (Mul a b out ∷ rows) = omega (arith, few_products (c + 1) rows)
few_products c (Const value out ∷ rows) = omega (arith, few_products c rows)
few_products c (Assert a ∷ rows) = few_products c rows

few_asserted : (rows : List ArithRow) → length (flat_map wires_asserted rows) ≤ length rows
few_asserted [] = omega arith
few_asserted (Add a b out ∷ rows) = omega (arith, few_asserted rows)
few_asserted (Mul a b out ∷ rows) = omega (arith, few_asserted rows)
few_asserted (Const value out ∷ rows) = omega (arith, few_asserted rows)
few_asserted (Assert a ∷ rows) = omega (arith, few_asserted rows)

-- the given values that steps take
taken_from : (c : ℕ) (rows : List ArithRow) → values_taken (steps_from c rows) ≡ range_with_len c (length (products_from c rows))
taken_from c [] = refl
taken_from c (Add a b out ∷ rows) = taken_from c rows
taken_from c (Mul a b out ∷ rows) = ap (λ l. c ∷ l) (taken_from (c + 1) rows)
taken_from c (Const value out ∷ rows) = taken_from c rows
taken_from c (Assert a ∷ rows) = taken_from c rows

pub arith_is_held : (circuit : Arith) (program : Program) (factors : List Factors) → ArithIsProgram → ArithIsOrdered → IsArith circuit → program ≡ arith_program circuit
    → program.products ≡ products_with 0 circuit.inputs circuit.inputs factors → IsSmallProgram program
arith_is_held circuit program factors law order is same made = subst IsSmallProgram (sym same) (record {
  formed = formed;
  ordered = order circuit is.well_formed;
  wires = is.wires;
  givens = omega (arith, few, is.wires);
  products = omega (arith, few, is.wires);
  counted = omega arith;
  all_or_none = inr (omega arith);
  numbered = λ i product at. number i product at ∙ omega arith;
  opened = omega (
    arith,
    length-append (range_with_len (first_output circuit) circuit.outputs) (asserted circuit),
    length-range_with_len (first_output circuit) circuit.outputs,
    few_asserted circuit.gates,
    is.gates,
    is.wires,
    is.well_formed.outputs_within,
  );
  checks = λ i product at below. absurd (omega (arith, below, number i product at));
  taken = taken_from circuit.inputs circuit.gates ∙ ap (range_with_len circuit.inputs) (omega arith);
})
  where
    formed : IsProgram (arith_program circuit)
    formed = law circuit is.well_formed

    few : circuit.inputs + length (products_from circuit.inputs circuit.gates) ≤ circuit.wires
    few = omega (arith, few_behind_first (arith_program circuit) formed, few_products circuit.inputs circuit.gates)

    number : (i : ℕ) (product : Product) → slice_get (products_from circuit.inputs circuit.gates) i ≡ Some product → product.c ≡ circuit.inputs + i
    number i product at = numbers_are 0 circuit.inputs circuit.inputs factors i product (omega arith)
        (ap (λ l. slice_get l i) (sym made ∙ ap (λ (p : Program). p.products) same) ∙ at)
