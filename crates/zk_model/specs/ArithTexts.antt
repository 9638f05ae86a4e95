-- The text of an arithmetic circuit.
use Rattle.std.specs.Prelude.{◌≡◌, ℕ, ◌≤◌, List, [], ◌∷◌, flat_map, length, codes}
use Rattle.zk_model.specs.Bristol.{Lexeme, number, name, lexemes}
use Rattle.zk_model.specs.declared.limits.TheConstants.{MAX_GATES, MAX_WIRES}
use Rattle.zk_model.specs.Arithmetic.{Arith, IsWellFormed}
use Rattle.zk_model.specs.declared.ArithRow.{ArithRow}
use Rattle.zk_model.specs.declared.ArithRow.TheVariants.{Add, Mul, Const, Assert}

-- the name, the input wires or the constant, and the output wire
abbrev pub row_lexemes : ArithRow → List Lexeme
row_lexemes (Add a b out) = name (codes "ADD") ∷ number a ∷ number b ∷ number out ∷ []
row_lexemes (Mul a b out) = name (codes "MUL") ∷ number a ∷ number b ∷ number out ∷ []
row_lexemes (Const value out) = name (codes "CONST") ∷ number value ∷ number out ∷ []
row_lexemes (Assert a) = name (codes "ASSERT") ∷ number a ∷ []

-- the numbers of gates, wires, inputs and outputs, and the gates in order
abbrev pub arith_lexemes : Arith → List Lexeme
arith_lexemes circuit =
    number (length circuit.gates) ∷ number circuit.wires ∷ number circuit.inputs ∷ number circuit.outputs
    ∷ flat_map row_lexemes circuit.gates

-- the circuits that are read: well formed, with at most 2^24 gates and wires
pub record IsArith (circuit : Arith) : Type 0 where
  pub well_formed : IsWellFormed circuit
  pub gates : length circuit.gates ≤ MAX_GATES
  pub wires : circuit.wires ≤ MAX_WIRES

-- the text says this circuit, which is one that is read
pub record IsArithText (circuit : Arith) (text : List ℕ) : Type 0 where
  pub says : lexemes text ≡ arith_lexemes circuit
  pub is : IsArith circuit
