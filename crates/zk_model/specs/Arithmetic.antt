-- Arithmetic circuits, and what it means that input elements give output elements.
use Rattle.std.specs.Prelude.{◌≡◌, ◌≢◌, ℕ, ◌+◌, ◌-◌, ◌<◌, ◌≤◌, ◌==◌, ◌||◌, nat_lt, Bool, true, false, List, [], ◌∷◌, length, take, drop, flat_map, slice_index, slice_get, Some, All}
use Rattle.zk_model.specs.Field.{IsElement, ◌+ₚ◌, ◌*ₚ◌}
use Rattle.zk_model.specs.declared.ArithRow.{ArithRow}
use Rattle.zk_model.specs.declared.ArithRow.TheVariants.{Add, Mul, Const, Assert}

-- how many wires there are, how many of the first are inputs and of the last outputs, and the gates
pub record Arith : Type 0 where
  pub wires : ℕ
  pub inputs : ℕ
  pub outputs : ℕ
  pub gates : List ArithRow

-- P holds of each gate with its number
abbrev pub EachGate : Arith → (ℕ → ArithRow → Type 0) → Type 0
EachGate circuit P = (n : ℕ) (gate : ArithRow) → slice_get circuit.gates n ≡ Some gate → P n gate

-- the first output wire
abbrev pub first_output : Arith → ℕ
first_output circuit = circuit.wires - circuit.outputs

-- ---- what a circuit computes

-- the element of a wire
abbrev pub element_of : List ℕ → ℕ → ℕ
element_of elements wire = slice_index elements wire

-- the element of the wire that a gate sets is the sum, the product or the constant that the gate says; an assertion sets none
abbrev pub Computes : List ℕ → ArithRow → Type 0
Computes elements (Add a b out) = element_of elements out ≡ element_of elements a +ₚ element_of elements b
Computes elements (Mul a b out) = element_of elements out ≡ element_of elements a *ₚ element_of elements b
Computes elements (Const value out) = element_of elements out ≡ value
Computes elements (Assert a) = Unit {0}

-- the wire that an assertion asserts to be 0
abbrev pub wires_asserted : ArithRow → List ℕ
wires_asserted (Add a b out) = []
wires_asserted (Mul a b out) = []
wires_asserted (Const value out) = []
wires_asserted (Assert a) = a ∷ []

-- those of all assertions, in order
abbrev pub asserted : Arith → List ℕ
asserted circuit = flat_map wires_asserted circuit.gates

-- one element for each wire, the input elements first, and every gate computes its own
pub record AreComputed (circuit : Arith) (inputs elements : List ℕ) : Type 0 where
  pub whole : length elements ≡ circuit.wires
  pub elements_are : All IsElement elements
  pub first : take circuit.inputs elements ≡ inputs
  pub gates : EachGate circuit (λ n gate. Computes elements gate)

-- and every assertion is met
pub record AreWireElements (circuit : Arith) (inputs elements : List ℕ) : Type 0 where
  pub computed : AreComputed circuit inputs elements
  pub zero : All (λ wire. element_of elements wire ≡ 0) (asserted circuit)

-- there are wire elements whose first are the inputs and whose last are the outputs
abbrev pub SatisfiesElements : Arith → List ℕ → List ℕ → Type 0
SatisfiesElements circuit inputs outputs =
    (elements : List ℕ) × AreWireElements circuit inputs elements × (drop (first_output circuit) elements ≡ outputs)

-- of the assertions, numbered from 0, this is the first that is not met, and its wire has this value
pub record IsFirstFailed (circuit : Arith) (inputs : List ℕ) (number value : ℕ) : Type 0 where
  pub elements : List ℕ
  pub computed : AreComputed circuit inputs elements
  pub wire : ℕ
  pub stands : slice_get (asserted circuit) number ≡ Some wire
  pub value_is : element_of elements wire ≡ value
  pub not_zero : value ≢ 0
  pub before : All (λ other. element_of elements other ≡ 0) (take number (asserted circuit))

-- ---- which circuits are read

-- a gate sets this wire
abbrev pub sets : ℕ → ArithRow → Bool
sets wire (Add a b out) = out == wire
sets wire (Mul a b out) = out == wire
sets wire (Const value out) = out == wire
sets wire (Assert a) = false

-- one of these gates sets it
abbrev pub is_among : ℕ → List ArithRow → Bool
is_among wire [] = false
is_among wire (gate ∷ gates) = sets wire gate || is_among wire gates

-- a wire is one of so many inputs, or one of these gates sets it
unfoldable pub is_set : ℕ → List ArithRow → ℕ → Bool
is_set inputs gates wire = nat_lt wire inputs || is_among wire gates

-- a wire that may be read after these gates
abbrev pub MayRead : Arith → List ArithRow → ℕ → Type 0
MayRead circuit before wire = (wire < circuit.wires) × (is_set circuit.inputs before wire ≡ true)

-- a wire that may be set after them
abbrev pub MaySet : Arith → List ArithRow → ℕ → Type 0
MaySet circuit before wire = (wire < circuit.wires) × (is_set circuit.inputs before wire ≡ false)

-- a gate may come after these: it reads wires that are set and sets one that is not, and a constant is an element
abbrev pub MayCome : Arith → List ArithRow → ArithRow → Type 0
MayCome circuit before (Add a b out) = MayRead circuit before a × MayRead circuit before b × MaySet circuit before out
MayCome circuit before (Mul a b out) = MayRead circuit before a × MayRead circuit before b × MaySet circuit before out
MayCome circuit before (Const value out) = IsElement value × MaySet circuit before out
MayCome circuit before (Assert a) = MayRead circuit before a

-- each gate may come after those before it, and every output wire is set
pub record IsWellFormed (circuit : Arith) : Type 0 where
  pub inputs_within : circuit.inputs ≤ circuit.wires
  pub outputs_within : circuit.outputs ≤ circuit.wires
  pub gates_fit : EachGate circuit (λ n gate. MayCome circuit (take n circuit.gates) gate)
  pub outputs_set : (wire : ℕ) → circuit.wires ≤ wire + circuit.outputs → wire < circuit.wires
      → is_set circuit.inputs circuit.gates wire ≡ true
