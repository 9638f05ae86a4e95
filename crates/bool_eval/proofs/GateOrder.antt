-- Which wires the gates of a well formed circuit leave alone.
use Rattle.std.proofs.Common.{◌≡◌, ◌≢◌, ℕ, ◌<◌, ◌≤◌, inl, inr, arith, subst}
use Rattle.std.specs.Prelude.{All, Some, slice_get}
use Rattle.std.proofs.lemmas.List.Elements.{recursion_from_All}
use Rattle.bool_eval.specs.GateBits.{HasWiresBelow}
use Rattle.zk_model.specs.Circuit.{Circuit, IsSet, IsWellFormed, wire_set, wires_read}
use Rattle.zk_model.specs.declared.GateRow.{GateRow}

-- a wire that is set early is set later too
pub set_later : (circuit : Circuit) (k n wire : ℕ) → k ≤ n → IsSet circuit k wire → IsSet circuit n wire
set_later circuit k n wire h (inl input) = inl input
set_later circuit k n wire h (inr by) = inr (by.0, by.1, omega (arith, by.2), by.3, by.4)

-- a gate neither sets nor reads a wire
pub record LeavesAlone (wire : ℕ) (gate : GateRow) : Type 0 where
  pub sets : wire_set gate ≢ wire
  pub reads : All (λ read. read ≢ wire) (wires_read gate)

-- a gate sets no input wire
pub input_apart : (circuit : Circuit) (n : ℕ) (gate : GateRow) → IsWellFormed circuit → slice_get circuit.gates n ≡ Some gate
    → (wire : ℕ) → wire < circuit.inputs → wire ≢ wire_set gate
input_apart circuit n gate order is wire input same = order.sets_once n gate is (inl (subst (λ (w : ℕ). w < circuit.inputs) same input))

-- a wire that is set before a gate is not the one that it sets
set_apart : (circuit : Circuit) (n : ℕ) (gate : GateRow) → IsWellFormed circuit → slice_get circuit.gates n ≡ Some gate
    → (wire : ℕ) → IsSet circuit n wire → wire ≢ wire_set gate
set_apart circuit n gate order is wire before same = order.sets_once n gate is (subst (λ (w : ℕ). IsSet circuit n w) same before)

-- a gate does not read the wire that it sets
pub own_reads : (circuit : Circuit) (n : ℕ) (gate : GateRow) → IsWellFormed circuit → slice_get circuit.gates n ≡ Some gate
    → All (λ read. read ≢ wire_set gate) (wires_read gate)
own_reads circuit n gate order is i d below = set_apart circuit n gate order is _ (order.reads_set n gate is i d below)

-- an earlier gate leaves the wire alone that a later one sets
pub earlier_apart : (circuit : Circuit) (k n : ℕ) (earlier gate : GateRow) → IsWellFormed circuit → k < n
    → slice_get circuit.gates k ≡ Some earlier → slice_get circuit.gates n ≡ Some gate → LeavesAlone (wire_set gate) earlier
earlier_apart circuit k n earlier gate order less was is = record {
  sets = set_apart circuit n gate order is (wire_set earlier) (inr (k, earlier, less, was, λ i. wire_set earlier));
  reads = λ i d below. set_apart circuit n gate order is _ (set_later circuit k n _ (omega arith) (order.reads_set k earlier was i d below));
}

-- a gate sets a wire after the inputs
pub inputs_before : (circuit : Circuit) (n : ℕ) (gate : GateRow) → IsWellFormed circuit → slice_get circuit.gates n ≡ Some gate → circuit.inputs ≤ wire_set gate
inputs_before circuit n gate order is =
    let no_input : wire_set gate < circuit.inputs → ⊥ = λ input. order.sets_once n gate is (inl input) in
    behind (wire_set gate) circuit.inputs no_input
  where
    behind : (wire inputs : ℕ) → (wire < inputs → ⊥) → inputs ≤ wire
    behind wire inputs never = omega (arith, never)

-- a wire that is set is one of the circuit's
pub set_within : (circuit : Circuit) (n wire : ℕ) → IsWellFormed circuit → IsSet circuit n wire → wire < circuit.wires
set_within circuit n wire order (inl input) = omega (arith, order.inputs_within)
set_within circuit n wire order (inr by) = subst (λ (w : ℕ). w < circuit.wires) by.4 (order.sets_within by.0 by.1 by.3)

-- and so are those of a gate
pub gate_within : (circuit : Circuit) (n : ℕ) (gate : GateRow) → IsWellFormed circuit → slice_get circuit.gates n ≡ Some gate → HasWiresBelow circuit.wires gate
gate_within circuit n gate order is = (
  order.sets_within n gate is,
  recursion_from_All (λ wire. wire < circuit.wires) (wires_read gate) (λ i d below. set_within circuit n _ order (order.reads_set n gate is i d below)),
)
