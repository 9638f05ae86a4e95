-- Circuits of any size, drawn from a number: a workload.
use Rattle.std.specs.Prelude.{ℕ, zero, suc, ◌+◌, ◌*◌, ◌/◌, ◌%◌, ◌^◌, ◌==◌, nat_le, nat_lt, Bool, if◌then◌else◌, List, [], ◌∷◌, ◌++◌, map, flat_map, length, codes, min}
use Rattle.std.specs.List.{range_with_len}
use Rattle.std.specs.Fmt.{decimal}
use Rattle.zk_model.specs.Bits.{from_bit}
use Rattle.zk_model.specs.Circuit.{Circuit}
use Rattle.zk_model.specs.declared.GateRow.{GateRow}
use Rattle.zk_model.specs.declared.GateRow.TheVariants.{And, Xor, Inv, Eqw, Eq}

-- ---- draws

-- a step of the linear congruential generator modulo 2^64 whose constants are those of Knuth's MMIX
abbrev pub next_state : ℕ → ℕ
next_state state = (state * 6364136223846793005 + 1442695040888963407) % 2 ^ 64

-- the state after so many draws, the first of them from the number
unfoldable pub state_after : ℕ → ℕ → ℕ
state_after number zero = number
state_after number (suc k) = next_state (state_after number k)

-- draw k, from 0: the state that it leaves
abbrev pub draw : ℕ → ℕ → ℕ
draw number k = state_after number (k + 1)

-- ---- the circuit

-- input bit i: the highest bit of draw i
abbrev pub generated_bit : ℕ → ℕ → Bool
generated_bit number i = nat_le (2 ^ 63) (draw number i)

unfoldable pub generated_bits : ℕ → List Bool
generated_bits number = map (generated_bit number) (range_with_len 0 64)

-- one of the first wires, by the upper half of a draw
abbrev pub drawn_wire : ℕ → ℕ → ℕ
drawn_wire drawn wires = drawn / 2 ^ 32 % wires

-- a gate by the highest three bits of a draw: three in eight are XOR, three AND, one INV and one EQW
abbrev pub drawn_gate : ℕ → ℕ → ℕ → ℕ → GateRow
drawn_gate drawn a b out =
    let kind = drawn / 2 ^ 61 in
    if nat_lt kind 3 then Xor a b out else if nat_lt kind 6 then And a b out else if kind == 6 then Inv a out else Eqw a out

-- gate i, by three draws, of which INV and EQW leave the last unused
unfoldable pub generated_gate : ℕ → ℕ → GateRow
generated_gate number i =
    let out = 64 + i in
    drawn_gate (draw number (64 + 3 * i)) (drawn_wire (draw number (65 + 3 * i)) out)
    (drawn_wire (draw number (66 + 3 * i)) out) out

-- 64 inputs, and the last 32 wires that gates set as outputs, or as many as there are
abbrev pub generated_circuit : ℕ → ℕ → Circuit
generated_circuit gates number = record {
  wires = 64 + gates;
  inputs = 64;
  outputs = min gates 32;
  gates = map (generated_gate number) (range_with_len 0 gates);
}

-- ---- its text

-- tokens with a space between them, and a line feed
abbrev pub line : List (List ℕ) → List ℕ
line [] = codes "\n"
line (token ∷ []) = token ++ codes "\n"
line (token ∷ next ∷ tokens) = token ++ (codes " " ++ line (next ∷ tokens))

-- the numbers of inputs and of outputs, the input wires, the output wire, and the name
abbrev pub gate_tokens : GateRow → List (List ℕ)
gate_tokens (And a b out) = codes "2" ∷ codes "1" ∷ decimal a ∷ decimal b ∷ decimal out ∷ codes "AND" ∷ []
gate_tokens (Xor a b out) = codes "2" ∷ codes "1" ∷ decimal a ∷ decimal b ∷ decimal out ∷ codes "XOR" ∷ []
gate_tokens (Inv a out) = codes "1" ∷ codes "1" ∷ decimal a ∷ decimal out ∷ codes "INV" ∷ []
gate_tokens (Eqw a out) = codes "1" ∷ codes "1" ∷ decimal a ∷ decimal out ∷ codes "EQW" ∷ []
gate_tokens (Eq bit out) = codes "1" ∷ codes "1" ∷ decimal (from_bit bit) ∷ decimal out ∷ codes "EQ" ∷ []

abbrev pub gate_line : GateRow → List ℕ
gate_line gate = line (gate_tokens gate)

-- the numbers of gates and of wires, one input value, and one output value
unfoldable pub heading : Circuit → List ℕ
heading circuit =
    line (decimal (length circuit.gates) ∷ decimal circuit.wires ∷ [])
    ++ line (codes "1" ∷ decimal circuit.inputs ∷ [])
    ++ line (codes "1" ∷ decimal circuit.outputs ∷ [])

-- a circuit whose inputs are one value, as its outputs are, with a gate on each line
abbrev pub plain_text : Circuit → List ℕ
plain_text circuit = heading circuit ++ flat_map gate_line circuit.gates

abbrev pub generated_text : ℕ → ℕ → List ℕ
generated_text gates number = plain_text (generated_circuit gates number)
