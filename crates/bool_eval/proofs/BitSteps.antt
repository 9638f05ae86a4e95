-- One gate's bit after another.
use Rattle.std.proofs.Common.{◌≡◌, ◌≢◌, ℕ, ◌+◌, ◌<◌, ◌≤◌, Bool, false, not, List, length, take, arith, sym, ◌∙◌, ap, refl, set, get_or-set_other, get_or-set_same, subst, length-set, inl, inr}
use Rattle.std.proofs.Math.Nat.{eq-or-lt_of_le}
use Rattle.std.proofs.lemmas.List.{take-set-le}
use Rattle.std.proofs.lemmas.Option.{slice_get_within}
use Rattle.std.specs.Prelude.{All, Some, slice_get, ◌&&◌}
use Rattle.zk_model.specs.Bits.{exclusive_or}
use Rattle.zk_model.specs.Circuit.{Circuit, IsSet, IsWellFormed, MeetsGate, AreWireBits, bit_of, wire_set, wires_read}
use Rattle.zk_model.specs.declared.GateRow.{GateRow}
use Rattle.zk_model.specs.declared.GateRow.TheVariants.{And, Xor, Inv, Eqw, Eq}
use Rattle.circuit_laws.specs.GateBits.{gate_bit}
use Rattle.bool_eval.specs.GateBits.{AreBlankBehind}
use Rattle.bool_eval.proofs.GateOrder.{LeavesAlone, inputs_before, own_reads, earlier_apart, set_later}

other_bit : (bits : List Bool) (wire other : ℕ) (bit : Bool) → other ≢ wire → bit_of (set bits wire bit) other ≡ bit_of bits other
other_bit bits wire other bit apart = get_or-set_other bits wire other bit false apart

-- a gate that leaves a wire alone is met after its bit is set
kept : (bits : List Bool) (wire : ℕ) (bit : Bool) (gate : GateRow) → LeavesAlone wire gate → MeetsGate bits gate → MeetsGate (set bits wire bit) gate
kept bits wire bit (And a b out) apart met =
    other_bit bits wire out bit apart.sets ∙ met
    ∙ (λ i. sym (other_bit bits wire a bit (apart.reads 0 0 (omega arith))) i && sym (other_bit bits wire b bit (apart.reads 1 0 (omega arith))) i)
kept bits wire bit (Xor a b out) apart met =
    other_bit bits wire out bit apart.sets ∙ met
    ∙ (λ i. exclusive_or (sym (other_bit bits wire a bit (apart.reads 0 0 (omega arith))) i) (sym (other_bit bits wire b bit (apart.reads 1 0 (omega arith))) i))
kept bits wire bit (Inv a out) apart met =
    other_bit bits wire out bit apart.sets ∙ met ∙ ap not (sym (other_bit bits wire a bit (apart.reads 0 0 (omega arith))))
kept bits wire bit (Eqw a out) apart met =
    other_bit bits wire out bit apart.sets ∙ met ∙ sym (other_bit bits wire a bit (apart.reads 0 0 (omega arith)))
kept bits wire bit (Eq value out) apart met = other_bit bits wire out bit apart.sets ∙ met

-- a gate is met once its bit is set
given_bit : (bits : List Bool) (gate : GateRow) → wire_set gate < length bits → All (λ read. read ≢ wire_set gate) (wires_read gate)
    → MeetsGate (set bits (wire_set gate) (gate_bit bits gate)) gate
given_bit bits (And a b out) within apart =
    get_or-set_same bits out (bit_of bits a && bit_of bits b) false within
    ∙ (λ i. sym (other_bit bits out a (bit_of bits a && bit_of bits b) (apart 0 0 (omega arith))) i && sym (other_bit bits out b (bit_of bits a && bit_of bits b) (apart 1 0 (omega arith))) i)
given_bit bits (Xor a b out) within apart =
    let bit = exclusive_or (bit_of bits a) (bit_of bits b) in
    get_or-set_same bits out bit false within
    ∙ (λ i. exclusive_or (sym (other_bit bits out a bit (apart 0 0 (omega arith))) i) (sym (other_bit bits out b bit (apart 1 0 (omega arith))) i))
given_bit bits (Inv a out) within apart =
    get_or-set_same bits out (not (bit_of bits a)) false within ∙ ap not (sym (other_bit bits out a (not (bit_of bits a)) (apart 0 0 (omega arith))))
given_bit bits (Eqw a out) within apart =
    get_or-set_same bits out (bit_of bits a) false within ∙ sym (other_bit bits out a (bit_of bits a) (apart 0 0 (omega arith)))
given_bit bits (Eq bit out) within apart = get_or-set_same bits out bit false within

-- bits for all wires, the inputs first, that meet the first n gates
pub record AreBitsSoFar (circuit : Circuit) (inputs bits : List Bool) (n : ℕ) : Type 0 where
  pub whole : length bits ≡ circuit.wires
  pub first : take circuit.inputs bits ≡ inputs
  pub gates : (k : ℕ) (gate : GateRow) → k < n → slice_get circuit.gates k ≡ Some gate → MeetsGate bits gate
  pub unset : (wire : ℕ) → ¬ IsSet circuit n wire → bit_of bits wire ≡ false

-- before the first gate
pub bits_first : (circuit : Circuit) (bits : List Bool) → length bits ≡ circuit.wires → AreBlankBehind circuit.inputs bits
    → AreBitsSoFar circuit (take circuit.inputs bits) bits 0
bits_first circuit bits whole blank = record {
  whole = whole;
  first = refl;
  gates = λ k gate less was. absurd (omega arith);
  unset = λ wire none. let no_input : wire < circuit.inputs → ⊥ = λ input. none (inl input) in blank wire (behind wire circuit.inputs no_input);
}
  where
    behind : (wire inputs : ℕ) → (wire < inputs → ⊥) → inputs ≤ wire
    behind wire inputs never = omega (arith, never)

-- one gate more
pub bits_more : (circuit : Circuit) (inputs bits : List Bool) (n : ℕ) (gate : GateRow) → IsWellFormed circuit → slice_get circuit.gates n ≡ Some gate
    → AreBitsSoFar circuit inputs bits n → AreBitsSoFar circuit inputs (set bits (wire_set gate) (gate_bit bits gate)) (n + 1)
bits_more circuit inputs bits n gate order is far = record {
  whole = length-set bits (wire_set gate) (gate_bit bits gate) ∙ far.whole;
  first = take-set-le circuit.inputs bits (wire_set gate) (gate_bit bits gate) (inputs_before circuit n gate order is) ∙ far.first;
  gates = λ k other less was. elim (eq-or-lt_of_le (within_more k n less)) [
    | inl same ↦
        let at : slice_get circuit.gates n ≡ Some other = subst (λ (i : ℕ). slice_get circuit.gates i ≡ Some other) same was in
        let one : gate ≡ other = cc in
        subst (λ (g : GateRow). MeetsGate (set bits (wire_set gate) (gate_bit bits gate)) g) one
        (given_bit bits gate (within bits circuit n gate order is far.whole) (own_reads circuit n gate order is))
    | inr before ↦ kept bits (wire_set gate) (gate_bit bits gate) other (earlier_apart circuit k n other gate order before was is) (far.gates k other before was)
  ];
  unset = λ wire none.
      other_bit bits (wire_set gate) wire (gate_bit bits gate)
      (λ same. none (inr (n, gate, omega arith, is, sym same)))
      ∙ far.unset wire (λ before. none (set_later circuit n (n + 1) wire (omega arith) before));
}
  where
    within_more : (k n : ℕ) → k < n + 1 → k ≤ n
    within_more k n less = omega arith

    within : (bits : List Bool) (circuit : Circuit) (n : ℕ) (gate : GateRow) → IsWellFormed circuit → slice_get circuit.gates n ≡ Some gate → length bits ≡ circuit.wires → wire_set gate < length bits
    within bits circuit n gate order is whole = let below : wire_set gate < circuit.wires = order.sets_within n gate is in omega arith

-- bits that meet all gates
pub all_bits : (circuit : Circuit) (inputs bits : List Bool) → AreBitsSoFar circuit inputs bits (length circuit.gates) → AreWireBits circuit inputs bits
all_bits circuit inputs bits far = record {
  whole = far.whole;
  first = far.first;
  gates = λ n gate is. far.gates n gate (slice_get_within circuit.gates n gate is) is;
}

-- the same, as a loop over the gates has it
pub bits_next : (circuit : Circuit) (inputs bits now : List Bool) (n : ℕ) (gate : GateRow) → IsWellFormed circuit → slice_get circuit.gates n ≡ Some gate
    → now ≡ set bits (wire_set gate) (gate_bit bits gate) → AreBitsSoFar circuit inputs bits n → AreBitsSoFar circuit inputs now (n + 1)
bits_next circuit inputs bits now n gate order at is far =
    subst (λ (l : List Bool). AreBitsSoFar circuit inputs l (n + 1)) (sym is) (bits_more circuit inputs bits n gate order at far)
