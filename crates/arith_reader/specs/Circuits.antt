-- The circuits that are read.
use Rattle.std.specs.Prelude.{ℕ, List}
use Rattle.zk_model.specs.Arithmetic.{Arith}
use Rattle.zk_model.specs.declared.ArithRow.{ArithRow}

-- the circuit of these counts and gates
abbrev pub circuit_of : ℕ → ℕ → ℕ → List ArithRow → Arith
circuit_of wires inputs outputs gates =
    record { wires = wires; inputs = inputs; outputs = outputs; gates = gates }
