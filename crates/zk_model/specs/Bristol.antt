-- The text of a circuit in Bristol Fashion (Smart and others, the page of MPC circuits in that format).
use Rattle.std.specs.Prelude.{◌≡◌, ℕ, ◌+◌, ◌-◌, ◌*◌, ◌≤◌, ◌==◌, ◌||◌, ◌&&◌, nat_le, nat_lt, Bool, if◌then◌else◌, List, [], ◌∷◌, ◌++◌, map, flat_map, filter, fold, length, sum, codes}
use Rattle.std.specs.List.{slice_split, list_all}
use Rattle.zk_model.specs.Bits.{from_bit}
use Rattle.zk_model.specs.Circuit.{Circuit, IsWellFormed}
use Rattle.zk_model.specs.declared.GateRow.{GateRow}
use Rattle.zk_model.specs.declared.GateRow.TheVariants.{And, Xor, Inv, Eqw, Eq}
use Rattle.zk_model.specs.declared.limits.TheConstants.{MAX_GATES, MAX_VALUES, MAX_WIRES}

-- ---- tokens

-- space, tab, carriage return and line feed
abbrev pub is_blank : ℕ → Bool
is_blank c = c == 32 || c == 9 || c == 13 || c == 10

-- the tokens of a text: what stands between blanks
abbrev pub tokens : List ℕ → List (List ℕ)
tokens text = filter (λ piece. nat_lt 0 (length piece)) (slice_split is_blank text)

-- what a token says
pub data Lexeme : Type 0 where
  number : ℕ → Lexeme
  name : List ℕ → Lexeme

-- a byte from 0 to 9 in ASCII
abbrev pub is_digit : ℕ → Bool
is_digit c = nat_le 48 c && nat_le c 57

-- the number of digits, the highest first
abbrev pub decimal_value : List ℕ → ℕ
decimal_value digits = fold (λ n c. 10 * n + (c - 48)) 0 digits

-- digits are a number, however many zeros lead it, and all else is a name
abbrev pub lexeme : List ℕ → Lexeme
lexeme token = if list_all is_digit token then number (decimal_value token) else name token

-- the text, token by token
abbrev pub lexemes : List ℕ → List Lexeme
lexemes text = map lexeme (tokens text)

-- ---- what a circuit's text says

-- the numbers of inputs and of outputs, the input wires, the output wire, and the name
abbrev pub gate_lexemes : GateRow → List Lexeme
gate_lexemes (And a b out) = number 2 ∷ number 1 ∷ number a ∷ number b ∷ number out ∷ name (codes "AND") ∷ []
gate_lexemes (Xor a b out) = number 2 ∷ number 1 ∷ number a ∷ number b ∷ number out ∷ name (codes "XOR") ∷ []
gate_lexemes (Inv a out) = number 1 ∷ number 1 ∷ number a ∷ number out ∷ name (codes "INV") ∷ []
gate_lexemes (Eqw a out) = number 1 ∷ number 1 ∷ number a ∷ number out ∷ name (codes "EQW") ∷ []
gate_lexemes (Eq bit out) = number 1 ∷ number 1 ∷ number (from_bit bit) ∷ number out ∷ name (codes "EQ") ∷ []

-- how many numbers, and the numbers
abbrev pub counted_lexemes : List ℕ → List Lexeme
counted_lexemes sizes = number (length sizes) ∷ map number sizes

-- the wires of each input value and of each output value
pub record Values : Type 0 where
  pub inputs : List ℕ
  pub outputs : List ℕ

-- the numbers of gates and of wires, and the values
abbrev pub header_lexemes : ℕ → ℕ → Values → List Lexeme
header_lexemes gates wires values =
    number gates ∷ number wires ∷ counted_lexemes values.inputs ++ counted_lexemes values.outputs

-- the header and the gates, in order
abbrev pub circuit_lexemes : Circuit → Values → List Lexeme
circuit_lexemes circuit values =
    header_lexemes (length circuit.gates) circuit.wires values ++ flat_map gate_lexemes circuit.gates

-- ---- which texts are read

-- at most 2^24 gates and wires, and at most 1,024 values of inputs and of outputs
pub record IsWithinLimits (circuit : Circuit) (values : Values) : Type 0 where
  pub gates : length circuit.gates ≤ MAX_GATES
  pub wires : circuit.wires ≤ MAX_WIRES
  pub inputs : length values.inputs ≤ MAX_VALUES
  pub outputs : length values.outputs ≤ MAX_VALUES

-- The text says this circuit, and the circuit is one that is read: its values cover its input wires and its
-- output wires, it is well formed and within the limits.
pub record IsText (circuit : Circuit) (text : List ℕ) : Type 0 where
  pub values : Values
  pub says : lexemes text ≡ circuit_lexemes circuit values
  pub inputs : sum values.inputs ≡ circuit.inputs
  pub outputs : sum values.outputs ≡ circuit.outputs
  pub limits : IsWithinLimits circuit values
  pub well_formed : IsWellFormed circuit
