-- What an evaluation answers.
use Rattle.std.specs.Prelude.{◌≡◌, ◌≢◌, ℕ, ◌≤◌, false, List, [], ◌∷◌, flat_map, length, take, slice_get, Some, All}
use Rattle.zk_model.specs.Field.{IsElement}
use Rattle.zk_model.specs.Arithmetic.{Arith, IsFirstFailed, SatisfiesElements, asserted, element_of, is_set}
use Rattle.zk_model.specs.declared.ArithRow.{ArithRow}
use Rattle.zk_model.specs.declared.ArithRow.TheVariants.{Add, Mul, Const, Assert}
use Rattle.arith_eval.specs.declared.asserts.Unmet.{Unmet}
use Rattle.arith_eval.specs.declared.fault.ArithEvalFault.{ArithEvalFault}
use Rattle.arith_eval.specs.declared.fault.ArithEvalFault.TheVariants.{WrongLength, AssertFailed, NoMemory}

-- no other outputs satisfy the circuit at these elements
abbrev pub AreOnlyOutputs : Arith → List ℕ → List ℕ → Type 0
AreOnlyOutputs circuit values outputs = (others : List ℕ) → SatisfiesElements circuit values others → others ≡ outputs

-- an assertion is the first that is not met, and so no outputs satisfy the circuit
pub record IsUnsatisfied (circuit : Arith) (values : List ℕ) (number value : ℕ) : Type 0 where
  pub first : IsFirstFailed circuit values number value
  pub no_outputs : (outputs : List ℕ) → ¬ SatisfiesElements circuit values outputs

-- a wrong length names the circuit's number of inputs and the number of elements, which differ; all else is told only
-- where they agree
abbrev pub IsCause : Arith → List ℕ → ArithEvalFault → Type 0
IsCause circuit values (WrongLength need got) = (need ≡ circuit.inputs) × (got ≡ length values) × (need ≢ got)
IsCause circuit values (AssertFailed number value) = IsUnsatisfied circuit values number value
IsCause circuit values NoMemory = length values ≡ circuit.inputs

-- the same without assertions
abbrev pub IsLengthCause : Arith → List ℕ → ArithEvalFault → Type 0
IsLengthCause circuit values (WrongLength need got) = (need ≡ circuit.inputs) × (got ≡ length values) × (need ≢ got)
IsLengthCause circuit values (AssertFailed number value) = ⊥
IsLengthCause circuit values NoMemory = length values ≡ circuit.inputs

-- a wire that is no input and that no gate sets is 0
abbrev pub LeavesUnset : Arith → List ℕ → Type 0
LeavesUnset circuit elements = (wire : ℕ) → is_set circuit.inputs circuit.gates wire ≡ false → element_of elements wire ≡ 0

-- elements for so many wires, of which these are the first, and all others 0
pub record AreFirst (values : List ℕ) (wires : ℕ) (elements : List ℕ) : Type 0 where
  pub whole : length elements ≡ wires
  pub elements_are : All IsElement elements
  pub first : take (length values) elements ≡ values
  pub zero : (wire : ℕ) → length values ≤ wire → element_of elements wire ≡ 0

-- ---- assertions

abbrev pub AreZero : List ℕ → List ℕ → Type 0
AreZero elements wires = All (λ wire. element_of elements wire ≡ 0) wires

-- this assertion is the first that is not met
pub record IsUnmet (circuit : Arith) (elements : List ℕ) (unmet : Unmet) : Type 0 where
  pub wire : ℕ
  pub stands : slice_get (asserted circuit) unmet.number ≡ Some wire
  pub value_is : element_of elements wire ≡ unmet.value
  pub not_zero : unmet.value ≢ 0
  pub before : AreZero elements (take unmet.number (asserted circuit))

-- ---- products

-- the element of the wire that a product sets
abbrev pub row_products : List ℕ → ArithRow → List ℕ
row_products elements (Add a b out) = []
row_products elements (Mul a b out) = element_of elements out ∷ []
row_products elements (Const value out) = []
row_products elements (Assert a) = []

-- those of all products, in order
abbrev pub products_in : List ℕ → List ArithRow → List ℕ
products_in elements gates = flat_map (row_products elements) gates
