-- A generated circuit, by computation: four gates, one of each kind, drawn from 22.
use Rattle.std.proofs.Common.{◌≡◌, Bool, true, false, List, [], ◌∷◌, ◌++◌, codes, refl}
use Rattle.std.specs.Fmt.{digits}
use Rattle.zk_model.proofs.ExampleTools.{each_item}
use Rattle.zk_model.specs.Bits.{digits_of}
use Rattle.zk_model.specs.Circuit.{MeetsGate, Satisfies}
use Rattle.circuit_gen.specs.Generated.{state_after, draw, generated_bit, generated_bits, generated_gate, generated_circuit, heading, generated_text}
use Rattle.zk_model.specs.declared.GateRow.TheVariants.{And, Xor, Inv, Eqw}

-- the first draw from 0, and its highest bit
first_draw : draw 0 0 ≡ 1442695040888963407
unfolding state_after
first_draw = refl

first_bit : generated_bit 0 0 ≡ false
unfolding state_after
first_bit = refl

input_bits : digits_of (generated_bits 22) ≡ codes "1011001101000100100111110100110100100110000001010101111100010110"
unfolding state_after generated_bits
input_bits = refl

gate_rows : (generated_circuit 4 22).gates ≡ Inv 36 64 ∷ Eqw 60 65 ∷ Xor 34 37 66 ∷ And 42 61 67 ∷ []
unfolding state_after generated_gate
gate_rows = refl

whole_text : generated_text 4 22
    ≡ codes "4 68\n1 64\n1 4\n1 1 36 64 INV\n1 1 60 65 EQW\n2 1 34 37 66 XOR\n2 1 42 61 67 AND\n"
unfolding state_after generated_gate heading digits
whole_text = refl

outputs : List Bool
outputs = true ∷ false ∷ false ∷ false ∷ []

gives_outputs : Satisfies (generated_circuit 4 22) (generated_bits 22) outputs
unfolding state_after generated_bits generated_gate outputs
gives_outputs =
    let bits = generated_bits 22 ++ outputs in (
      bits,
      record {
        whole = refl;
        first = refl;
        gates = each_item (λ n gate. MeetsGate bits gate) (generated_circuit 4 22).gates (refl, (refl, (refl, (refl, tt))));
      },
      refl,
    )
