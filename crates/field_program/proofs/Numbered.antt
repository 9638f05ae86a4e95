-- Products that are numbered in their order, and steps that name them.
use Rattle.std.proofs.Common.{◌≡◌, ℕ, zero, suc, ◌+◌, ◌-◌, ◌<◌, ◌≤◌, ⊎_elim, List, [], ◌∷◌, ◌++◌, length, map, drop, get_or, refl, sym, ap, ◌∙◌, arith, length-append, length-drop}
use Rattle.std.specs.Prelude.{Some, slice_get}
use Rattle.std.proofs.lemmas.Option.{slice_get-get_or, slice_get_within, get_or_from_slice_get}
use Rattle.std.specs.List.{range_with_len}
use Rattle.std.proofs.lemmas.Bool.{cases_lt}
use Rattle.std.proofs.lemmas.List.{length-map, get_or-map, get_or_append_left, get_or-append_right, get_or-drop}
use Rattle.std.proofs.lemmas.List.FromFn.{length-map-range_with_len, get_or-map-range_with_len}
use Rattle.zk_model.specs.Program as model
use Rattle.zk_model.specs.declared.Product.{Product}
use Rattle.zk_model.specs.Boolean.{bit_check}
use Rattle.field_program.specs.Counts as counts
use Rattle.field_program.specs.Programs.{program_of, products_with}
use Rattle.field_program.specs.Rules.{HasFactors, step_of, numbered}
use Rattle.field_program.specs.Steps.{step_equation, equations}
use Rattle.packed_gates.specs.PackedSteps.{IsRule}
use Rattle.packed_gates.specs.declared.packed.Factors.{Factors}
use Rattle.packed_gates.specs.declared.packed.PackedStep.{PackedStep}
use Rattle.packed_gates.specs.declared.packed.PackedStep.TheVariants as rule
use Rattle.packed_gates.specs.declared.packed.Tables.{Tables}

pub length-numbered : (number : ℕ) (factors : List Factors) → length (numbered number factors) ≡ length factors
length-numbered number [] = refl
length-numbered number (factors ∷ others) = ap suc (length-numbered (number + 1) others)

pub numbered-append : (number : ℕ) (some others : List Factors)
    → numbered number (some ++ others) ≡ numbered number some ++ numbered (number + length some) others
numbered-append number [] others = ap (λ k. numbered k others) same
  where
    same : number ≡ number + 0
    same = omega arith
numbered-append number (factors ∷ some) others =
    let same : number + 1 + length some ≡ number + suc (length some) = omega arith in
    ap (λ l. record { a = factors.a; b = factors.b; c = number } ∷ l)
    (numbered-append (number + 1) some others ∙ ap (λ k. numbered (number + 1) some ++ numbered k others) same)

-- product i of these
pub numbered_at : (number : ℕ) (factors : List Factors) (i : ℕ) (d : Product) (e : Factors) → i < length factors
    → get_or (numbered number factors) i d ≡ record { a = (get_or factors i e).a; b = (get_or factors i e).b; c = number + i }
numbered_at number [] i d e below = elim below [ ]
numbered_at number (factors ∷ others) zero d e below = λ j. record { a = factors.a; b = factors.b; c = same j }
  where
    same : number ≡ number + 0
    same = omega arith
numbered_at number (factors ∷ others) (suc i) d e below =
    numbered_at (number + 1) others i d e (omega (arith, below)) ∙ (λ j. record { a = (get_or others i e).a; b = (get_or others i e).b; c = same j })
  where
    same : number + 1 + i ≡ number + suc i
    same = omega arith

-- ---- the products of a program

pub length-products_with : (public inputs unchecked : ℕ) (factors : List Factors) → unchecked ≤ inputs
    → length (products_with public inputs unchecked factors) + unchecked ≡ inputs + length factors
length-products_with public inputs unchecked factors some =
    let all = length-append (drop unchecked checks) (numbered inputs factors) in
    let first = length-drop unchecked checks in
    omega (arith, some, all, first, length-map-range_with_len (bit_check public) 0 inputs, length-numbered inputs factors)
  where
    checks : List Product
    checks = map (bit_check public) (range_with_len 0 inputs)

-- the first are bit checks
check_is : (public inputs unchecked : ℕ) (factors : List Factors) (i : ℕ) (d : Product) → unchecked + i < inputs
    → get_or (products_with public inputs unchecked factors) i d ≡ bit_check public (unchecked + i)
check_is public inputs unchecked factors i d below =
    get_or_append_left (drop unchecked checks) (numbered inputs factors) d i
    (omega (arith, below, length-drop unchecked checks, length-map-range_with_len (bit_check public) 0 inputs))
    ∙ get_or-drop unchecked checks i d
    ∙ get_or-map-range_with_len (bit_check public) 0 inputs (unchecked + i) (unchecked + i) d below (omega arith)
  where
    checks : List Product
    checks = map (bit_check public) (range_with_len 0 inputs)

-- the others have these factors
product_is : (public inputs unchecked : ℕ) (factors : List Factors) (i k : ℕ) (d : Product) (e : Factors) → unchecked ≤ inputs → unchecked + i ≡ inputs + k
    → k < length factors
    → get_or (products_with public inputs unchecked factors) i d ≡ record { a = (get_or factors k e).a; b = (get_or factors k e).b; c = inputs + k }
product_is public inputs unchecked factors i k d e some same below =
    get_or-append_right (drop unchecked checks) (numbered inputs factors) (length (drop unchecked checks)) i d refl late
    ∙ ap (λ n. get_or (numbered inputs factors) n d) back
    ∙ numbered_at inputs factors k d e below
  where
    checks : List Product
    checks = map (bit_check public) (range_with_len 0 inputs)

    counted : length (drop unchecked checks) ≡ inputs - unchecked
    counted = length-drop unchecked checks ∙ ap (λ n. n - unchecked) (length-map-range_with_len (bit_check public) 0 inputs)

    late : length (drop unchecked checks) ≤ i
    late = omega (arith, counted, some, same)

    back : i - length (drop unchecked checks) ≡ k
    back = omega (arith, counted, some, same)

pub check_at : (public inputs unchecked : ℕ) (factors : List Factors) (i : ℕ) → unchecked + i < inputs
    → slice_get (products_with public inputs unchecked factors) i ≡ Some (bit_check public (unchecked + i))
check_at public inputs unchecked factors i below =
    let within : i < length (products_with public inputs unchecked factors) =
    omega (arith, below, length-products_with public inputs unchecked factors (omega (arith, below))) in
    slice_get-get_or (products_with public inputs unchecked factors) i (bit_check public i) within
    ∙ ap (λ (p : Product). Some p) (check_is public inputs unchecked factors i (bit_check public i) below)

pub product_at : (public inputs unchecked : ℕ) (factors : List Factors) (i k c : ℕ) (e : Factors) → unchecked ≤ inputs → unchecked + i ≡ c → c ≡ inputs + k
    → k < length factors
    → slice_get (products_with public inputs unchecked factors) i ≡ Some (record { a = (get_or factors k e).a; b = (get_or factors k e).b; c = c })
product_at public inputs unchecked factors i k c e some number same below =
    let within : i < length (products_with public inputs unchecked factors) =
    omega (arith, below, number, same, some, length-products_with public inputs unchecked factors some) in
    slice_get-get_or (products_with public inputs unchecked factors) i (bit_check public i) within
    ∙ ap (λ (p : Product). Some p) (product_is public inputs unchecked factors i k (bit_check public i) e some (number ∙ same) below)
    ∙ (λ j. Some (record { a = (get_or factors k e).a; b = (get_or factors k e).b; c = same_back j }))
  where
    same_back : inputs + k ≡ c
    same_back = sym same

pub factors_there : (public inputs unchecked : ℕ) (factors : List Factors) (i : ℕ) → unchecked ≤ inputs → inputs ≤ unchecked + i
    → i < length (products_with public inputs unchecked factors) → unchecked + i - inputs < length factors
factors_there public inputs unchecked factors i some late within = omega (arith, some, late, within, length-products_with public inputs unchecked factors some)

-- each product has the given value of its number, behind those that have none
pub numbers_are : (public inputs unchecked : ℕ) (factors : List Factors) (i : ℕ) (product : Product) → unchecked ≤ inputs
    → slice_get (products_with public inputs unchecked factors) i ≡ Some product → product.c ≡ unchecked + i
numbers_are public inputs unchecked factors i product some at = ⊎_elim first behind (cases_lt (unchecked + i) inputs)
  where
    here : get_or (products_with public inputs unchecked factors) i product ≡ product
    here = get_or_from_slice_get (products_with public inputs unchecked factors) i product product at

    first : unchecked + i < inputs → product.c ≡ unchecked + i
    first below = ap (λ (p : Product). p.c) (sym here ∙ check_is public inputs unchecked factors i product below)

    behind : inputs ≤ unchecked + i → product.c ≡ unchecked + i
    behind late =
        let same : unchecked + i ≡ inputs + (unchecked + i - inputs) = omega (arith, late) in
        let below : unchecked + i - inputs < length factors =
        omega (arith, late, slice_get_within (products_with public inputs unchecked factors) i product at, length-products_with public inputs unchecked factors some) in
        ap (λ (p : Product). p.c) (sym here
        ∙ product_is public inputs unchecked factors i (unchecked + i - inputs) product (record { a = 0; b = 0 }) some same below) ∙ sym same

-- ---- programs

-- so many inputs are not checked
pub unchecked_is : (wires public inputs unchecked : ℕ) (rules : List PackedStep) (tables : Tables) (opened : List ℕ) → unchecked ≤ inputs
    → counts.unchecked (program_of wires public inputs unchecked rules tables opened) ≡ unchecked
unchecked_is wires public inputs unchecked rules tables opened some =
    omega (arith, some, length-products_with public inputs unchecked tables.factors.items some)

-- a step that takes a given value has its factors
pub has_factors : (wires public inputs unchecked : ℕ) (rules : List PackedStep) (tables : Tables) (opened : List ℕ) (r : PackedStep) → unchecked ≤ inputs
    → IsRule tables r → HasFactors (program_of wires public inputs unchecked rules tables opened) (step_of inputs tables r)
has_factors wires public inputs unchecked rules tables opened (rule.Bit out value) some within = tt
has_factors wires public inputs unchecked rules tables opened (rule.Copy out a) some within = tt
has_factors wires public inputs unchecked rules tables opened (rule.Not out a) some within = tt
has_factors wires public inputs unchecked rules tables opened (rule.Mul out product) some within =
    product_at public inputs unchecked tables.factors.items
    (inputs + product - counts.unchecked (program_of wires public inputs unchecked rules tables opened)) product (inputs + product) (record { a = 0; b = 0 }) some
    (omega (arith, some, unchecked_is wires public inputs unchecked rules tables opened some)) refl within
has_factors wires public inputs unchecked rules tables opened (rule.XorFrom out product) some within =
    product_at public inputs unchecked tables.factors.items
    (inputs + product - counts.unchecked (program_of wires public inputs unchecked rules tables opened)) product (inputs + product) (record { a = 0; b = 0 }) some
    (omega (arith, some, unchecked_is wires public inputs unchecked rules tables opened some)) refl within
has_factors wires public inputs unchecked rules tables opened (rule.Sum out sum) some within = tt
has_factors wires public inputs unchecked rules tables opened (rule.Const out constant) some within = tt
has_factors wires public inputs unchecked rules tables opened (rule.Assert a) some within = tt

-- step k of these rules
pub step_at : (inputs : ℕ) (tables : Tables) (rules : List PackedStep) (k : ℕ) (r : PackedStep) → k < length rules
    → slice_get (equations (map (step_of inputs tables) rules)) k ≡ Some (step_equation (step_of inputs tables (get_or rules k r)))
step_at inputs tables rules k r below =
    let said : k < length (map (step_of inputs tables) rules) = omega (arith, below, length-map rules (step_of inputs tables)) in
    let within : k < length (equations (map (step_of inputs tables) rules)) = omega (arith, said, length-map (map (step_of inputs tables) rules) step_equation) in
    slice_get-get_or (equations (map (step_of inputs tables) rules)) k (step_equation (step_of inputs tables r)) within
    ∙ ap (λ (s : model.Step). Some s) (get_or-map step_equation (map (step_of inputs tables) rules) k (step_of inputs tables r) (step_equation (step_of inputs tables r)) said
    ∙ ap step_equation (get_or-map (step_of inputs tables) rules k r (step_of inputs tables r) below))
