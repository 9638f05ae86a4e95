-- Programs over the field: the linear equations of the wires, and the products that a proof checks.
use Rattle.std.specs.Prelude.{◌≡◌, ℕ, ◌+◌, ◌*◌, ◌-◌, ◌/◌, ◌%◌, ◌<◌, ◌≤◌, ◌⊎◌, List, length, map, take, drop, sum_by, slice_index, slice_get, Some, All}
use Rattle.zk_model.specs.Field.{prime, IsElement, ◌*ₚ◌}
use Rattle.zk_model.specs.declared.Product.{Product}

-- a factor times the number at a place of a list
pub record Term : Type 0 where
  pub factor : ℕ
  pub place : ℕ

-- A linear equation of one wire: the wire `out` has the sum of these terms in earlier wires, of these terms in given
-- values, and of the constant.
pub record Step : Type 0 where
  pub out : ℕ
  pub wires : List Term
  pub given : List Term
  pub constant : ℕ

-- How many wires there are; how many of the first are public constants, and how many after them are private inputs;
-- the steps; how many values are given, each with one correlation; the products; and the wires that are opened.
-- Private input i is given value i. A product says which given value is that of its two wires.
pub record Program : Type 0 where
  pub wires : ℕ
  pub public : ℕ
  pub inputs : ℕ
  pub steps : List Step
  pub givens : ℕ
  pub products : List Product
  pub opened : List ℕ

-- ---- which programs there are

-- a wire is public or an input, or one of the first n steps sets it
abbrev pub IsSet : Program → ℕ → ℕ → Type 0
IsSet program n wire =
    (wire < program.public + program.inputs)
    ⊎ ((k : ℕ) × (step : Step) × (k < n) × (slice_get program.steps k ≡ Some step) × (step.out ≡ wire))

-- some step sets the wire
abbrev pub IsSetInAll : Program → ℕ → Type 0
IsSetInAll program wire = IsSet program (length program.steps) wire

-- step n reads only wires that are set before it, and values that are given, and sets a wire that is not
pub record IsStep (program : Program) (n : ℕ) (step : Step) : Type 0 where
  pub reads : All (λ term. IsSet program n term.place) step.wires
  pub takes : All (λ term. term.place < program.givens) step.given
  pub factors : All (λ term. IsElement term.factor) step.wires × All (λ term. IsElement term.factor) step.given
  pub constant : IsElement step.constant
  pub within : step.out < program.wires
  pub once : ¬ IsSet program n step.out

-- the factors of a product are set, and its value is given
pub record IsProduct (program : Program) (product : Product) : Type 0 where
  pub left : IsSetInAll program product.a
  pub right : IsSetInAll program product.b
  pub value : product.c < program.givens

-- product n is the one whose value is given value j
pub record IsProductOf (program : Program) (j n : ℕ) : Type 0 where
  pub product : Product
  pub stands : slice_get program.products n ≡ Some product
  pub value : product.c ≡ j

-- There is one product whose value is given value j.
pub record IsMadeOnce (program : Program) (j : ℕ) : Type 0 where
  pub number : ℕ
  pub made : IsProductOf program j number
  pub once : (other : ℕ) → IsProductOf program j other → other ≡ number

-- Steps come in order, factors and opened wires are set, and each given value beyond the inputs is that of one product.
pub record IsProgram (program : Program) : Type 0 where
  pub first : program.public + program.inputs ≤ program.wires
  pub inputs : program.inputs ≤ program.givens
  pub steps : (n : ℕ) (step : Step) → slice_get program.steps n ≡ Some step → IsStep program n step
  pub products : All (IsProduct program) program.products
  pub made : (j : ℕ) → program.inputs ≤ j → j < program.givens → IsMadeOnce program j
  pub opened : All (IsSetInAll program) program.opened

-- ---- what a program says of the numbers of its wires

-- the terms of a list, added up
abbrev pub weighted : List ℕ → List Term → ℕ
weighted numbers terms = sum_by (λ term. term.factor * slice_index numbers term.place) terms

-- what a step makes of its wires and of the given values. The constant 1 is `one`, so that the same equations
-- serve for values, MACs and keys: 1 for values, 0 for MACs, and the verifier's key for keys.
abbrev pub step_value : ℕ → List ℕ → List ℕ → Step → ℕ
step_value one wires given step = (weighted wires step.wires + weighted given step.given + step.constant * one) % prime

-- the wire that a step sets has that number
abbrev pub MeetsStep : ℕ → List ℕ → List ℕ → Step → Type 0
MeetsStep one wires given step = slice_index wires step.out ≡ step_value one wires given step

-- One number for each wire: the public values times `one`, then the first given values, and every step is met. A wire
-- that no step sets may have any number.
pub record Carries (one : ℕ) (program : Program) (public given wires : List ℕ) : Type 0 where
  pub whole : length wires ≡ program.wires
  pub constants : take program.public wires ≡ map (λ value. value *ₚ one) public
  pub inputs : take program.inputs (drop program.public wires) ≡ take program.inputs given
  pub steps : All (MeetsStep one wires given) program.steps

-- the given value of a product is that of its two wires
abbrev pub Multiplies : List ℕ → List ℕ → Product → Type 0
Multiplies wires given product = slice_index given product.c ≡ slice_index wires product.a *ₚ slice_index wires product.b

-- the values of the wires follow from the public and the given ones, and every product is right
pub record Solves (program : Program) (public wires given : List ℕ) : Type 0 where
  pub carried : Carries 1 program public given wires
  pub count : length given ≡ program.givens
  pub elements : All IsElement given
  pub multiplied : All (Multiplies wires given) program.products

-- the values of the opened wires
abbrev pub opened_values : Program → List ℕ → List ℕ
opened_values program wires = map (slice_index wires) program.opened

-- Over these public values, these inputs give these values of the opened wires: there are values of all wires and given
-- values that solve the program.
pub record IsSolvedBy (program : Program) (public inputs claims : List ℕ) : Type 0 where
  pub wires : List ℕ
  pub given : List ℕ
  pub solved : Solves program public wires given
  pub first : take program.inputs given ≡ inputs
  pub last : opened_values program wires ≡ claims

-- ---- what inputs make

-- a term takes an input, or the value of a product whose factors the first n steps set
abbrev pub IsMadeBefore : Program → ℕ → Term → Type 0
IsMadeBefore program n term = (number : ℕ) (product : Product) → slice_get program.products number ≡ Some product
    → product.c ≡ term.place → program.inputs ≤ term.place → IsSet program n product.a × IsSet program n product.b

-- no step takes the value of a product before its factors are set
abbrev pub IsOrdered : Program → Type 0
IsOrdered program = (n : ℕ) (step : Step) → slice_get program.steps n ≡ Some step → All (IsMadeBefore program n) step.given

-- What public values and private inputs make: the values of the wires follow from the public and the given ones; the inputs are
-- the first given values, and each other is the product of its two wires.
pub record AreMade (program : Program) (public inputs wires given : List ℕ) : Type 0 where
  pub carried : Carries 1 program public given wires
  pub count : length given ≡ program.givens
  pub first : take program.inputs given ≡ inputs
  pub others : All (λ product. program.inputs ≤ product.c → Multiplies wires given product) program.products

-- ---- counts

-- the least number of parts of this size that hold n
abbrev pub part_count : ℕ → ℕ → ℕ
part_count n size = (n + (size - 1)) / size

-- the sections of this length that the products make
abbrev pub section_count : Program → ℕ → ℕ
section_count program section_length = part_count (length program.products) section_length

-- the correlations that a session takes: one for each given value, and a mask for each section
abbrev pub correlations_needed : Program → ℕ → ℕ
correlations_needed program section_length = program.givens + section_count program section_length
