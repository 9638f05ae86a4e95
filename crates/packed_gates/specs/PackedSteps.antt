-- Gates as the steps that they are of a program.
use Rattle.std.specs.Prelude.{◌≡◌, ℕ, ◌+◌, ◌<◌, false, List, [], ◌∷◌, length, map, flat_map, slice_index_or}
use Rattle.zk_model.specs.declared.GateRow.{GateRow}
use Rattle.zk_model.specs.declared.GateRow.TheVariants.{And, Xor, Inv, Eqw, Eq}
use Rattle.packed_gates.specs.declared.packed.Factors.{Factors}
use Rattle.packed_gates.specs.declared.packed.PackedStep.{PackedStep}
use Rattle.packed_gates.specs.declared.packed.PackedStep.TheVariants.{Bit, Copy, Not, Mul, XorFrom, Sum, Const, Assert}
use Rattle.packed_gates.specs.declared.packed.Tables.{Tables}

-- a rule is one of a program: what it names is in the tables, and it is no assertion
abbrev pub IsRule : Tables → PackedStep → Type 0
IsRule tables (Bit out value) = Unit {0}
IsRule tables (Copy out a) = Unit {0}
IsRule tables (Not out a) = Unit {0}
IsRule tables (Mul out product) = product < length tables.factors.items
IsRule tables (XorFrom out product) = product < length tables.factors.items
IsRule tables (Sum out sum) = sum < length tables.sums.items
IsRule tables (Const out constant) = constant < length tables.constants.items
IsRule tables (Assert a) = ⊥

-- a rule is one of a Boolean gate, and the product that it takes is one of so many
abbrev pub IsGateRule : ℕ → PackedStep → Type 0
IsGateRule products (Bit out value) = Unit {0}
IsGateRule products (Copy out a) = Unit {0}
IsGateRule products (Not out a) = Unit {0}
IsGateRule products (Mul out product) = product < products
IsGateRule products (XorFrom out product) = product < products
IsGateRule products (Sum out sum) = ⊥
IsGateRule products (Const out constant) = ⊥
IsGateRule products (Assert a) = ⊥

-- the factors of a product
abbrev pub factors_of : List Factors → ℕ → Factors
factors_of factors product = slice_index_or factors product (record { a = 0; b = 0 })

-- ---- gates

-- the rule of a gate whose product, if it has one, has this number
abbrev pub gate_rule : ℕ → GateRow → PackedStep
gate_rule number (And a b out) = Mul out number
gate_rule number (Xor a b out) = XorFrom out number
gate_rule number (Inv a out) = Not out a
gate_rule number (Eqw a out) = Copy out a
gate_rule number (Eq bit out) = Bit out bit

-- the factors of its product
abbrev pub gate_factors : GateRow → List Factors
gate_factors (And a b out) = record { a = a; b = b } ∷ []
gate_factors (Xor a b out) = record { a = a; b = b } ∷ []
gate_factors (Inv a out) = []
gate_factors (Eqw a out) = []
gate_factors (Eq bit out) = []

-- the rules of gates whose first product has this number
abbrev pub rules_from : ℕ → List GateRow → List PackedStep
rules_from number [] = []
rules_from number (gate ∷ gates) = gate_rule number gate ∷ rules_from (number + length (gate_factors gate)) gates

-- the gate that a rule says; a rule that is of no Boolean gate says one that nothing reads
abbrev pub gate_of : List Factors → PackedStep → GateRow
gate_of factors (Bit out value) = Eq value out
gate_of factors (Copy out a) = Eqw a out
gate_of factors (Not out a) = Inv a out
gate_of factors (Mul out product) = And (factors_of factors product).a (factors_of factors product).b out
gate_of factors (XorFrom out product) = Xor (factors_of factors product).a (factors_of factors product).b out
gate_of factors (Sum out sum) = Eq false out
gate_of factors (Const out constant) = Eq false out
gate_of factors (Assert a) = Eq false a

abbrev pub gates_of : List Factors → List PackedStep → List GateRow
gates_of factors rules = map (gate_of factors) rules

-- the rules of gates, and the factors of their products
pub record ArePacked (gates : List GateRow) (rules : List PackedStep) (factors : List Factors) : Type 0 where
  pub rules_are : rules ≡ rules_from 0 gates
  pub factors_are : factors ≡ flat_map gate_factors gates
