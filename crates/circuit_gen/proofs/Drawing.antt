-- Draws and drawn gates.
use Rattle.std.proofs.Common.{◌≡◌, ℕ, ◌+◌, ◌*◌, ◌/◌, ◌^◌, ◌<◌, Bool, true, false, List, [], ◌∷◌, ◌++◌, map, refl, ap, sym, ◌∙◌, arith, mod-lt}
use Rattle.std.specs.Prelude.{nat_le, nat_lt, ◌==◌, if◌then◌else◌}
use Rattle.std.specs.List.{range_with_len}
use Rattle.std.proofs.lemmas.List.FromFn.{map-range_with_len_more}
use Rattle.std.proofs.Math.Numerals.{add-one}
use Rattle.zk_model.specs.Circuit.{wire_set}
use Rattle.circuit_gen.specs.Generated.{next_state, state_after, draw, generated_bit, drawn_wire, drawn_gate, generated_gate}
use Rattle.zk_model.specs.declared.GateRow.{GateRow}
use Rattle.zk_model.specs.declared.GateRow.TheVariants.{And, Xor, Inv, Eqw}
use Rattle.circuit_gen.specs.Lines.{ReadsEarlier}
use Rattle.circuit_gen.proofs.Rows.{AreRows}

-- ---- states

pub state_more : (number k : ℕ) → state_after number (k + 1) ≡ next_state (state_after number k)
unfolding state_after
state_more number k = rw add-one refl

-- the next state is the next draw
pub draw_is : (number state k : ℕ) → state ≡ state_after number k → next_state state ≡ draw number k
draw_is number state k at = ap next_state at ∙ sym (state_more number k)

-- one input bit more
pub more_bits : (number i drawn : ℕ) (bits now : List Bool) → bits ≡ map (generated_bit number) (range_with_len 0 i) → drawn ≡ draw number i
    → now ≡ bits ++ nat_le (2 ^ 63) drawn ∷ [] → now ≡ map (generated_bit number) (range_with_len 0 (i + 1))
more_bits number i drawn bits now far is next =
    next ∙ (λ j. far j ++ nat_le (2 ^ 63) (is j) ∷ []) ∙ sym (map-range_with_len_more (generated_bit number) 0 i i (omega arith))

-- ---- gates

-- a gate that sets a wire and reads others before it
record IsGateOf (out : ℕ) (gate : GateRow) : Type 0 where
  sets : wire_set gate ≡ out
  reads : ReadsEarlier gate

drawn_is : (drawn a b out : ℕ) → a < out → b < out → IsGateOf out (drawn_gate drawn a b out)
drawn_is drawn a b out first second = chosen (nat_lt (drawn / 2 ^ 61) 3) (nat_lt (drawn / 2 ^ 61) 6) (drawn / 2 ^ 61 == 6)
  where
    chosen : (x y z : Bool) → IsGateOf out (if x then Xor a b out else if y then And a b out else if z then Inv a out else Eqw a out)
    chosen true y z = record { sets = refl; reads = (first, (second, tt)) }
    chosen false true z = record { sets = refl; reads = (first, (second, tt)) }
    chosen false false true = record { sets = refl; reads = (first, tt) }
    chosen false false false = record { sets = refl; reads = (first, tt) }

generated_is : (number i : ℕ) → IsGateOf (64 + i) (generated_gate number i)
unfolding generated_gate
generated_is number i =
    drawn_is (draw number (64 + 3 * i)) (drawn_wire (draw number (65 + 3 * i)) (64 + i)) (drawn_wire (draw number (66 + 3 * i)) (64 + i)) (64 + i)
    (wire_below (65 + 3 * i)) (wire_below (66 + 3 * i))
  where
    wire_below : (k : ℕ) → drawn_wire (draw number k) (64 + i) < 64 + i
    wire_below k = let some : 0 < 64 + i = omega arith in mod-lt (draw number k / 2 ^ 32) some

-- generated gates set one wire after the other
pub generated_rows : (number : ℕ) → AreRows (generated_gate number)
generated_rows number = record { sets = λ i. (generated_is number i).sets; reads = λ i. (generated_is number i).reads }

-- three draws from the state before gate i make it, and leave the state before the next one
pub record Draws (number i state : ℕ) (gate : GateRow) (after : ℕ) : Type 0 where
  pub gate_is : gate ≡ generated_gate number i
  pub state_is : after ≡ state_after number (64 + 3 * (i + 1))

pub gate_drawn : (number i state out after : ℕ) (gate : GateRow) → state ≡ state_after number (64 + 3 * i) → out ≡ 64 + i
    → gate ≡ drawn_gate (next_state state) (drawn_wire (next_state (next_state state)) out) (drawn_wire (next_state (next_state (next_state state))) out) out
    → after ≡ next_state (next_state (next_state state)) → Draws number i state gate after
unfolding generated_gate
gate_drawn number i state out after gate at place made left =
    let kind : next_state state ≡ draw number (64 + 3 * i) = draw_is number state (64 + 3 * i) at in
    let first : next_state (next_state state) ≡ draw number (65 + 3 * i) = draw_is number (next_state state) (65 + 3 * i) (kind ∙ ap (state_after number) (omega arith)) in
    let second : next_state (next_state (next_state state)) ≡ draw number (66 + 3 * i) = draw_is number (next_state (next_state state)) (66 + 3 * i) (first ∙ ap (state_after number) (omega arith)) in
    record {
      gate_is = made ∙ (λ j. drawn_gate (kind j) (drawn_wire (first j) (place j)) (drawn_wire (second j) (place j)) (place j));
      state_is = left ∙ second ∙ ap (state_after number) (omega arith);
    }
