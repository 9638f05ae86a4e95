-- An arithmetic circuit as a program over the field (Yang, Sarkar, Weng and Wang, QuickSilver, ACM CCS 2021).
use Rattle.std.specs.Prelude.{ℕ, ◌+◌, List, [], ◌∷◌, ◌++◌, length, replicate}
use Rattle.std.specs.List.{range_with_len}
use Rattle.zk_model.specs.Boolean.{once}
use Rattle.zk_model.specs.Program.{Step, Program}
use Rattle.zk_model.specs.declared.Product.{Product}
use Rattle.zk_model.specs.Arithmetic.{Arith, asserted, first_output}
use Rattle.zk_model.specs.declared.ArithRow.{ArithRow}
use Rattle.zk_model.specs.declared.ArithRow.TheVariants.{Add, Mul, Const, Assert}

-- The steps of gates whose first product has this given value: a + b for ADD, the given value of its product for MUL, and the
-- constant for CONST; an assertion has none.
abbrev pub steps_from : ℕ → List ArithRow → List Step
steps_from c [] = []
steps_from c (Add a b out ∷ gates) = record { out = out; wires = once a ∷ once b ∷ []; given = []; constant = 0 } ∷ steps_from c gates
steps_from c (Mul a b out ∷ gates) = record { out = out; wires = []; given = once c ∷ []; constant = 0 } ∷ steps_from (c + 1) gates
steps_from c (Const value out ∷ gates) = record { out = out; wires = []; given = []; constant = value } ∷ steps_from c gates
steps_from c (Assert a ∷ gates) = steps_from c gates

-- a product for each MUL
abbrev pub products_from : ℕ → List ArithRow → List Product
products_from c [] = []
products_from c (Add a b out ∷ gates) = products_from c gates
products_from c (Mul a b out ∷ gates) = record { a = a; b = b; c = c } ∷ products_from (c + 1) gates
products_from c (Const value out ∷ gates) = products_from c gates
products_from c (Assert a ∷ gates) = products_from c gates

-- The program of a circuit: a given value for each input and then for each MUL, and no bit checks. The outputs are opened, and then
-- the wires that are asserted.
abbrev pub arith_program : Arith → Program
arith_program circuit = record {
  wires = circuit.wires;
  public = 0;
  inputs = circuit.inputs;
  steps = steps_from circuit.inputs circuit.gates;
  givens = circuit.inputs + length (products_from circuit.inputs circuit.gates);
  products = products_from circuit.inputs circuit.gates;
  opened = range_with_len (first_output circuit) circuit.outputs ++ asserted circuit;
}

-- what the opened wires are claimed to have: the outputs, and 0 where it is asserted
abbrev pub arith_claims : Arith → List ℕ → List ℕ
arith_claims circuit outputs = outputs ++ replicate (length (asserted circuit)) 0
