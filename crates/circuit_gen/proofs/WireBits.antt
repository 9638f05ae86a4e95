-- The bits of wires, one gate after another.
use Rattle.std.proofs.Common.{◌≡◌, ℕ, ◌+◌, ◌<◌, Bool, false, not, List, [], ◌∷◌, ◌++◌, length, take, ap, sym, ◌∙◌, subst, arith, below_more, length-append}
use Rattle.std.specs.Prelude.{◌&&◌}
use Rattle.std.proofs.lemmas.List.{get_or_append_left, take_all, take-append-le}
use Rattle.zk_model.specs.Bits.{exclusive_or}
use Rattle.zk_model.specs.Circuit.{MeetsGate, AreWireBits, bit_of, wire_set}
use Rattle.zk_model.specs.declared.GateRow.{GateRow}
use Rattle.zk_model.specs.declared.GateRow.TheVariants.{And, Xor, Inv, Eqw, Eq}
use Rattle.circuit_gen.specs.Lines.{ReadsEarlier}
use Rattle.circuit_gen.proofs.Rows.{AreRows, circuit_of, row_is}

-- bits of the inputs and of the wires that the first gates set, which are met
pub record AreBitsSoFar (row : ℕ → GateRow) (inputs bits : List Bool) (n : ℕ) : Type 0 where
  pub whole : length bits ≡ 64 + n
  pub first : take 64 bits ≡ inputs
  pub gates : (k : ℕ) → k < n → MeetsGate bits (row k)

-- a gate of wires that have bits is met whatever bit comes
still_met : (bits : List Bool) (bit : Bool) (gate : GateRow) → wire_set gate < length bits → ReadsEarlier gate → MeetsGate bits gate → MeetsGate (bits ++ bit ∷ []) gate
still_met bits bit gate within reads met = kept gate within reads met
  where
    same : (wire : ℕ) → wire < length bits → bit_of (bits ++ bit ∷ []) wire ≡ bit_of bits wire
    same wire below = get_or_append_left bits (bit ∷ []) false wire below

    kept : (g : GateRow) → wire_set g < length bits → ReadsEarlier g → MeetsGate bits g → MeetsGate (bits ++ bit ∷ []) g
    kept (And a b out) sets before is =
        same out sets ∙ is ∙ (λ i. sym (same a (omega (arith, before.0))) i && sym (same b (omega (arith, before.1.0))) i)
    kept (Xor a b out) sets before is =
        same out sets ∙ is ∙ (λ i. exclusive_or (sym (same a (omega (arith, before.0))) i) (sym (same b (omega (arith, before.1.0))) i))
    kept (Inv a out) sets before is = same out sets ∙ is ∙ ap not (sym (same a (omega (arith, before.0))))
    kept (Eqw a out) sets before is = same out sets ∙ is ∙ sym (same a (omega (arith, before.0)))
    kept (Eq value out) sets before is = same out sets ∙ is

-- before the first gate
pub bits_first : (row : ℕ → GateRow) (inputs : List Bool) → length inputs ≡ 64 → AreBitsSoFar row inputs inputs 0
bits_first row inputs count = record { whole = omega arith; first = take_all 64 inputs (omega arith); gates = λ k less. absurd (omega arith) }

-- one gate more
pub bits_more : (row : ℕ → GateRow) (inputs bits : List Bool) (bit : Bool) (n : ℕ) → AreRows row → AreBitsSoFar row inputs bits n
    → MeetsGate (bits ++ bit ∷ []) (row n) → AreBitsSoFar row inputs (bits ++ bit ∷ []) (n + 1)
bits_more row inputs bits bit n rows far met = record {
  whole = length-append bits (bit ∷ []) ∙ omega (arith, far.whole);
  first = take-append-le 64 bits (bit ∷ []) (omega (arith, far.whole)) ∙ far.first;
  gates = below_more _ _
      (λ k less. still_met bits bit (row k) (omega (arith, far.whole, rows.sets k)) (rows.reads k) (far.gates k less))
      met;
}

-- after the last one
pub all_bits : (row : ℕ → GateRow) (gates outputs : ℕ) (inputs bits : List Bool) → AreBitsSoFar row inputs bits gates → AreWireBits (circuit_of row gates outputs) inputs bits
all_bits row gates outputs inputs bits far = record {
  whole = far.whole;
  first = far.first;
  gates = λ n gate is. let at = row_is row gates n gate is in subst (MeetsGate bits) at.1 (far.gates n at.0);
}
