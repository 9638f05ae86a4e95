-- The circuits that are read.
use Rattle.std.specs.Prelude.{ℕ, ◌≤◌, List, length}
use Rattle.zk_model.specs.Circuit.{Circuit, IsWellFormed}
use Rattle.zk_model.specs.declared.GateRow.{GateRow}
use Rattle.zk_model.specs.declared.limits.TheConstants.{MAX_GATES, MAX_WIRES}

-- well formed, and within the limits
pub record IsCircuit (circuit : Circuit) : Type 0 where
  pub well_formed : IsWellFormed circuit
  pub wires : circuit.wires ≤ MAX_WIRES
  pub gates : length circuit.gates ≤ MAX_GATES

-- the circuit of these counts and gates
abbrev pub circuit_of : ℕ → ℕ → ℕ → List GateRow → Circuit
circuit_of wires inputs outputs gates =
    record { wires = wires; inputs = inputs; outputs = outputs; gates = gates }
