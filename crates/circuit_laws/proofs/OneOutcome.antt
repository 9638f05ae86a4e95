-- The input bits determine the outputs.
use Rattle.std.proofs.Common.{◌≡◌, ℕ, zero, suc, ◌+◌, ◌-◌, inl, inr, Bool, false, not, ◌&&◌, List, length, drop, length-drop, sym, ◌∙◌, ap, subst, arith}
use Rattle.std.specs.Prelude.{All}
use Rattle.std.proofs.lemmas.List.{get_or-take, get_or-drop, ext_get_or}
use Rattle.circuit_laws.proofs.GateValues.{set_later}
use Rattle.zk_model.specs.Bits.{exclusive_or}
use Rattle.zk_model.specs.Circuit.{Circuit, bit_of, output_wire, MeetsGate, AreWireBits, IsSet, IsWellFormed, wire_set, wires_read}
use Rattle.circuit_laws.specs.Circuits.{OneOutcome}
use Rattle.zk_model.specs.declared.GateRow.{GateRow}
use Rattle.zk_model.specs.declared.GateRow.TheVariants.{And, Xor, Inv, Eqw, Eq}

-- two lists of bits that agree on the wires that a gate reads, and both meet the gate, agree on the wire that it sets
gate_gives_one : (some others : List Bool) (gate : GateRow)
    → All (λ wire. bit_of some wire ≡ bit_of others wire) (wires_read gate)
    → MeetsGate some gate → MeetsGate others gate
    → bit_of some (wire_set gate) ≡ bit_of others (wire_set gate)
gate_gives_one some others (And a b out) reads left right =
    left ∙ (λ i. reads 0 0 (omega arith) i && reads 1 0 (omega arith) i) ∙ sym right
gate_gives_one some others (Xor a b out) reads left right =
    left ∙ (λ i. exclusive_or (reads 0 0 (omega arith) i) (reads 1 0 (omega arith) i)) ∙ sym right
gate_gives_one some others (Inv a out) reads left right = left ∙ ap not (reads 0 0 (omega arith)) ∙ sym right
gate_gives_one some others (Eqw a out) reads left right = left ∙ reads 0 0 (omega arith) ∙ sym right
gate_gives_one some others (Eq bit out) reads left right = left ∙ sym right

-- two lists of wire bits with the same inputs agree on every wire that is an input or that one of the first n gates sets
one_before : (circuit : Circuit) (inputs some others : List Bool) → IsWellFormed circuit
    → AreWireBits circuit inputs some → AreWireBits circuit inputs others
    → (n wire : ℕ) → IsSet circuit n wire → bit_of some wire ≡ bit_of others wire
one_before circuit inputs some others order left right n wire (inl input) =
    sym (get_or-take circuit.inputs some wire false input)
    ∙ ap (λ l. bit_of l wire) (left.first ∙ sym right.first)
    ∙ get_or-take circuit.inputs others wire false input
one_before circuit inputs some others order left right zero wire (inr by) = absurd (omega (arith, by.2))
one_before circuit inputs some others order left right (suc n) wire (inr by) =
    let before = one_before circuit inputs some others order left right n in
    subst (λ (w : ℕ). bit_of some w ≡ bit_of others w) by.4
    (gate_gives_one some others by.1
    (λ i d below. before _ (set_later circuit by.0 n _ (omega (arith, by.2)) (order.reads_set by.0 by.1 by.3 i d below)))
    (left.gates by.0 by.1 by.3) (right.gates by.0 by.1 by.3))

-- two lists of wire bits with the same inputs end in the same outputs
one_end : (circuit : Circuit) (inputs some others : List Bool) → IsWellFormed circuit
    → AreWireBits circuit inputs some → AreWireBits circuit inputs others
    → drop (output_wire circuit 0) some ≡ drop (output_wire circuit 0) others
one_end circuit inputs some others order left right =
    ext_get_or false _ _
    (length-drop (output_wire circuit 0) some ∙ ap (λ l. l - output_wire circuit 0) (left.whole ∙ sym right.whole)
    ∙ sym (length-drop (output_wire circuit 0) others))
    (λ o below.
    let inside = order.outputs_set o (omega (arith, below, order.outputs_within, left.whole, length-drop (output_wire circuit 0) some)) in
    let place : output_wire circuit 0 + o ≡ output_wire circuit o = omega arith in
    get_or-drop (output_wire circuit 0) some o false ∙ ap (bit_of some) place
    ∙ one_before circuit inputs some others order left right (length circuit.gates) (output_wire circuit o) inside
    ∙ sym (get_or-drop (output_wire circuit 0) others o false ∙ ap (bit_of others) place))

pub one_outcome : OneOutcome
one_outcome circuit inputs some others order left right =
    sym left.2 ∙ one_end circuit inputs left.0 right.0 order left.1 right.1 ∙ right.2
