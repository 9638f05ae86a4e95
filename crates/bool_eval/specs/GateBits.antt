-- What a gate gives, from the bits of the wires that it reads.
use Rattle.std.specs.Prelude.{◌≡◌, ℕ, ◌<◌, ◌≤◌, Bool, false, List, length}
use Rattle.std.specs.List.{AllByRecursion}
use Rattle.zk_model.specs.Circuit.{Circuit, IsSet, bit_of, wire_set, wires_read}
use Rattle.zk_model.specs.declared.GateRow.{GateRow}

-- the wires of a gate are below a number of wires
abbrev pub HasWiresBelow : ℕ → GateRow → Type 0
HasWiresBelow wires gate = (wire_set gate < wires) × AllByRecursion (λ wire. wire < wires) (wires_read gate)

-- all bits but the first n are 0
abbrev pub AreBlankBehind : ℕ → List Bool → Type 0
AreBlankBehind n bits = (wire : ℕ) → n ≤ wire → bit_of bits wire ≡ false

-- a wire that is no input and that no gate sets is 0
abbrev pub LeavesUnset : Circuit → List Bool → Type 0
LeavesUnset circuit bits = (wire : ℕ) → ¬ IsSet circuit (length circuit.gates) wire → bit_of bits wire ≡ false
