-- A well-formed circuit has no more inputs and gates than wires: each input is a wire, and each gate sets one of its own.
use Rattle.std.proofs.Common.{◌≡◌, ℕ, zero, suc, ◌+◌, ◌-◌, ◌<◌, ◌≤◌, ◌⊎◌, inl, inr, List, length, get_or, sym, ◌∙◌, arith, subst, eqb, true, false, suc-le-suc}
use Rattle.std.specs.Prelude.{Some, slice_get, nat_lt}
use Rattle.std.proofs.lemmas.Bool.Decides.{nat_tests}
use Rattle.std.proofs.lemmas.Option.{slice_get-get_or}
use Rattle.zk_model.specs.Circuit.{Circuit, IsSet, IsWellFormed, wire_set}
use Rattle.circuit_laws.specs.Circuits.{GatesAreFew}
use Rattle.zk_model.specs.declared.GateRow.{GateRow}
use Rattle.zk_model.specs.declared.GateRow.TheVariants.{Eq}

-- ---- numbers that are apart

-- the number, or another one in the place of the last
abbrev moved : ℕ → ℕ → ℕ → ℕ
moved last other x = elim (eqb x last) [ true ↦ other | false ↦ x ]

moved_below : (last other x : ℕ) → x < suc last → other < suc last → (x ≡ last → other ≡ last → ⊥) → moved last other x < last
moved_below last other x within other_within apart = grind (arith, nat_tests)

moved_apart : (last other x y : ℕ) → (x ≡ y → ⊥) → (x ≡ other → ⊥) → (y ≡ other → ⊥) → moved last other x ≡ moved last other y → ⊥
moved_apart last other x y apart first second same = grind (arith, nat_tests)

-- numbers below a limit that are all apart are at most as many as the limit
apart_are_few : (limit count : ℕ) (f : ℕ → ℕ) → ((i : ℕ) → i < count → f i < limit)
    → ((i j : ℕ) → i < j → j < count → f i ≡ f j → ⊥) → count ≤ limit
apart_are_few limit zero f below apart = omega arith
apart_are_few zero (suc count) f below apart = absurd (omega (arith, below 0 (omega arith)))
apart_are_few (suc limit) (suc count) f below apart =
    suc-le-suc (apart_are_few limit count (λ i. moved limit (f count) (f i))
    (λ i h. moved_below limit (f count) (f i) (below i (omega arith)) (below count (omega arith)) (λ e e'. apart i count h (omega arith) (e ∙ sym e')))
    (λ i j h k e.
    moved_apart limit (f count) (f i) (f j) (apart i j h (omega arith)) (apart i count (omega arith) (omega arith)) (apart j count k (omega arith)) e))

-- ---- inputs and gates

-- the wire that gate n sets
abbrev wire_of : List GateRow → ℕ → ℕ
wire_of gates n = wire_set (get_or gates n (Eq false 0))

-- the wire of each input, and then of each gate
abbrev own_wire : ℕ → List GateRow → ℕ → ℕ
own_wire inputs gates i = elim (nat_lt i inputs) [ true ↦ i | false ↦ wire_of gates (i - inputs) ]

of_input : (inputs : ℕ) (gates : List GateRow) (i : ℕ) → i < inputs → own_wire inputs gates i ≡ i
of_input inputs gates i below = grind (arith, nat_tests)

of_gate : (inputs : ℕ) (gates : List GateRow) (i : ℕ) → inputs ≤ i → own_wire inputs gates i ≡ wire_of gates (i - inputs)
of_gate inputs gates i behind = grind (arith, nat_tests)

input_or_gate : (inputs i : ℕ) → (i < inputs) ⊎ (inputs ≤ i)
input_or_gate inputs i = grind arith

gate_at : (circuit : Circuit) (n : ℕ) → n < length circuit.gates → slice_get circuit.gates n ≡ Some (get_or circuit.gates n (Eq false 0))
gate_at circuit n below = slice_get-get_or circuit.gates n (Eq false 0) below

within : (circuit : Circuit) (i : ℕ) → IsWellFormed circuit → i < circuit.inputs + length circuit.gates
    → own_wire circuit.inputs circuit.gates i < circuit.wires
within circuit i formed below =
    elim (input_or_gate circuit.inputs i) [
      | inl input ↦ omega (arith, of_input circuit.inputs circuit.gates i input, input, formed.inputs_within)
      | inr behind ↦
          let n : ℕ = i - circuit.inputs in
          omega (arith, of_gate circuit.inputs circuit.gates i behind, formed.sets_within n _ (gate_at circuit n (omega arith)))
    ]

-- the wires before that of gate n are set before it
set_before : (circuit : Circuit) (i n : ℕ) → i < circuit.inputs + n → n < length circuit.gates
    → IsSet circuit n (own_wire circuit.inputs circuit.gates i)
set_before circuit i n before below =
    elim (input_or_gate circuit.inputs i) [
      | inl input ↦ inl (omega (arith, of_input circuit.inputs circuit.gates i input, input))
      | inr behind ↦
          let k : ℕ = i - circuit.inputs in
          inr (k, get_or circuit.gates k (Eq false 0), omega arith, gate_at circuit k (omega arith), sym (of_gate circuit.inputs circuit.gates i behind))
    ]

apart : (circuit : Circuit) (i j : ℕ) → IsWellFormed circuit → i < j → j < circuit.inputs + length circuit.gates
    → own_wire circuit.inputs circuit.gates i ≡ own_wire circuit.inputs circuit.gates j → ⊥
apart circuit i j formed before below same =
    elim (input_or_gate circuit.inputs j) [
      | inl input ↦
          omega (arith, same, of_input circuit.inputs circuit.gates i (omega arith), of_input circuit.inputs circuit.gates j input, before)
      | inr behind ↦
          let n : ℕ = j - circuit.inputs in
          formed.sets_once n _ (gate_at circuit n (omega arith))
          (subst (IsSet circuit n) (same ∙ of_gate circuit.inputs circuit.gates j behind) (set_before circuit i n (omega arith) (omega arith)))
    ]

pub gates_are_few : GatesAreFew
gates_are_few circuit formed =
    apart_are_few circuit.wires (circuit.inputs + length circuit.gates) (own_wire circuit.inputs circuit.gates)
    (λ i below. within circuit i formed below)
    (λ i j before below same. apart circuit i j formed before below same)
