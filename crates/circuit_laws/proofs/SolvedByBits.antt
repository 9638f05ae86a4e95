-- Values that solve a circuit's program are bits on every wire that is set, and these bits satisfy the circuit.
use Rattle.std.proofs.Common.{◌≡◌, ℕ, zero, suc, ◌+◌, ◌*◌, ◌-◌, ◌%◌, ◌<◌, ◌≤◌, ◌⊎◌, ⊎_elim, inl, inr, Bool, true, false, nat_eq, List, [], ◌∷◌, map, length, refl, sym, ◌∙◌, ap, subst, arith, mod-lt}
use Rattle.std.specs.Prelude.{Some, All, slice_get, slice_index}
use Rattle.std.specs.List.{take-map}
use Rattle.std.proofs.lemmas.Bool.{cases_lt}
use Rattle.std.proofs.lemmas.List.{length-map}
use Rattle.mersenne_field.proofs.Congruence.{same_cancel}
use Rattle.mersenne_field.proofs.Prime.{zero_product}
use Rattle.zk_model.specs.Bits.{from_bit}
use Rattle.zk_model.specs.Field.{prime, IsElement, ◌*ₚ◌}
use Rattle.zk_model.specs.Circuit.{Circuit, bit_of, IsSet, IsWellFormed, wire_set, wires_read}
use Rattle.zk_model.specs.Program.{Solves, Multiplies}
use Rattle.zk_model.specs.Boolean.{gate_step, private_inputs, given_of_gate, circuit_program}
use Rattle.circuit_laws.specs.Circuits.{SolvedByBits}
use Rattle.circuit_laws.proofs.BitsSolve.{value_of_bit, constants_are}
use Rattle.circuit_laws.proofs.CircuitIsProgram.{step_sets, step_of_gate}
use Rattle.circuit_laws.specs.GateBits.{gate_bit}
use Rattle.circuit_laws.proofs.GateValues.{HasBit, set_later, meets_gate, gate_value, of_gate, of_bit_check}
use Rattle.circuit_laws.proofs.Unique.{step_met, public_wire, input_wire}
use Rattle.zk_model.specs.declared.GateRow.{GateRow}

-- ---- bits of values

-- each says whether its value is 1
abbrev pub bits_of : List ℕ → List Bool
bits_of wires = map (λ (v : ℕ). nat_eq v 1) wires

-- the bit of a wire says whether the wire's value is 1
bit_at : (wires : List ℕ) (k : ℕ) → bit_of (bits_of wires) k ≡ nat_eq (slice_index wires k) 1
bit_at [] k = refl
bit_at (v ∷ wires) zero = refl
bit_at (v ∷ wires) (suc k) = bit_at wires k

-- a bit as a number is 1 where the bit is set
one_where_set : (x : Bool) → nat_eq (from_bit x) 1 ≡ x
one_where_set false = refl
one_where_set true = refl

-- a wire whose value is that of a bit has this bit
bit_from_value : (wires : List ℕ) (k : ℕ) (x : Bool) → slice_index wires k ≡ from_bit x → bit_of (bits_of wires) k ≡ x
bit_from_value wires k x h = bit_at wires k ∙ ap (λ (v : ℕ). nat_eq v 1) h ∙ one_where_set x

-- and so its value is that of its bit
has_bit : (wires : List ℕ) (k : ℕ) (x : Bool) → slice_index wires k ≡ from_bit x → HasBit (bits_of wires) wires k
has_bit wires k x h = h ∙ ap from_bit (sym (bit_from_value wires k x h))

-- the bits of bits' values are these bits
known_bits : (known : List Bool) → bits_of (map from_bit known) ≡ known
known_bits [] = refl
known_bits (bit ∷ known) = λ i. one_where_set bit i ∷ known_bits known i

-- ---- inputs

-- what is its own square is 0 or 1
zero_or_one : (v : ℕ) → v ≡ v *ₚ v → (v ≡ 0) ⊎ (v ≡ 1)
zero_or_one zero square = inl refl
zero_or_one (suc v) square =
    let within : (suc v * suc v) % prime < prime = mod-lt (suc v * suc v) (omega arith) in
    let below : suc v < prime = subst IsElement (sym square) within in
    let more : (suc v * v + suc v) % prime ≡ (0 + suc v) % prime = omega (arith, square) in
    elim (zero_product (suc v) v below (omega (arith, below)) (same_cancel prime (suc v * v) 0 (suc v) (omega arith) more)) [
      | inl none ↦ inl none
      | inr none ↦ inr (ap suc none)
    ]

-- a public wire has the value of its bit
public_has_bit : (circuit : Circuit) (known : List Bool) (wires given : List ℕ) (wire : ℕ)
    → Solves (circuit_program (length known) circuit) (map from_bit known) wires given → wire < length known → HasBit (bits_of wires) wires wire
public_has_bit circuit known wires given wire solved below =
    has_bit wires wire (bit_of known wire)
    (public_wire 1 (circuit_program (length known) circuit) (map from_bit known) given wires wire solved.carried below
    ∙ ap (λ l. slice_index l wire) (sym (constants_are known))
    ∙ value_of_bit known wire)

-- and so has a private input, which is its own square
private_has_bit : (circuit : Circuit) (known : List Bool) (wires given : List ℕ) (i : ℕ)
    → Solves (circuit_program (length known) circuit) (map from_bit known) wires given → i < private_inputs (length known) circuit
    → HasBit (bits_of wires) wires (length known + i)
private_has_bit circuit known wires given i solved below =
    elim (zero_or_one (slice_index wires (length known + i)) square) [
      | inl none ↦ has_bit wires (length known + i) false none
      | inr one ↦ has_bit wires (length known + i) true one
    ]
  where
    square : slice_index wires (length known + i) ≡ slice_index wires (length known + i) *ₚ slice_index wires (length known + i)
    square =
        input_wire 1 (circuit_program (length known) circuit) (map from_bit known) given wires i solved.carried below
        ∙ of_bit_check (Multiplies wires given) (length known) circuit i solved.multiplied below

input_has_bit : (circuit : Circuit) (known : List Bool) (wires given : List ℕ) (wire : ℕ) → length known ≤ circuit.inputs
    → Solves (circuit_program (length known) circuit) (map from_bit known) wires given → wire < circuit.inputs → HasBit (bits_of wires) wires wire
input_has_bit circuit known wires given wire few solved input = ⊎_elim
    (public_has_bit circuit known wires given wire solved)
    (λ past.
    let place : length known + (wire - length known) ≡ wire = omega (arith, past) in
    let private : wire - length known < private_inputs (length known) circuit = omega (arith, past, input, few) in
    subst (HasBit (bits_of wires) wires) place (private_has_bit circuit known wires given (wire - length known) solved private))
    (cases_lt wire (length known))

-- ---- gates

-- where a gate reads bits, the value of the wire that it sets is that of the bit from its truth table
value_set : (circuit : Circuit) (known : List Bool) (wires given : List ℕ)
    → Solves (circuit_program (length known) circuit) (map from_bit known) wires given
    → (n : ℕ) (gate : GateRow) → slice_get circuit.gates n ≡ Some gate → All (HasBit (bits_of wires) wires) (wires_read gate)
    → slice_index wires (wire_set gate) ≡ from_bit (gate_bit (bits_of wires) gate)
value_set circuit known wires given solved n gate at reads =
    let c = given_of_gate (length known) circuit n in
    ap (slice_index wires) (sym (step_sets c gate))
    ∙ step_met 1 (circuit_program (length known) circuit) (map from_bit known) given wires n (gate_step c gate) solved.carried
    (step_of_gate (length known) circuit n gate at)
    ∙ gate_value (bits_of wires) wires given c gate reads
    (of_gate (Multiplies wires given) (length known) circuit n gate solved.multiplied at)

-- a wire that is an input, or that one of the first n gates sets, has the value of its bit
set_has_bit : (circuit : Circuit) (known : List Bool) (wires given : List ℕ) → IsWellFormed circuit → length known ≤ circuit.inputs
    → Solves (circuit_program (length known) circuit) (map from_bit known) wires given
    → (n wire : ℕ) → IsSet circuit n wire → HasBit (bits_of wires) wires wire
set_has_bit circuit known wires given formed few solved n wire (inl input) = input_has_bit circuit known wires given wire few solved input
set_has_bit circuit known wires given formed few solved zero wire (inr by) = absurd (omega (arith, by.2))
set_has_bit circuit known wires given formed few solved (suc n) wire (inr by) =
    let before = set_has_bit circuit known wires given formed few solved n in
    subst (HasBit (bits_of wires) wires) by.4
    (has_bit wires (wire_set by.1) (gate_bit (bits_of wires) by.1)
    (value_set circuit known wires given solved by.0 by.1 by.3
    (λ i d below. before _ (set_later circuit by.0 n _ (omega (arith, by.2)) (formed.reads_set by.0 by.1 by.3 i d below)))))

pub solved_by_bits : SolvedByBits
solved_by_bits circuit known wires given formed few solved = (
  bits_of wires,
  record {
    bits_of_wires = record {
      whole = length-map wires (λ (v : ℕ). nat_eq v 1) ∙ solved.carried.whole;
      first = refl;
      gates = λ n gate at.
          meets_gate (bits_of wires) gate
          (bit_from_value wires (wire_set gate) (gate_bit (bits_of wires) gate)
          (value_set circuit known wires given solved n gate at
          (λ i d below. set_has_bit circuit known wires given formed few solved n _ (formed.reads_set n gate at i d below))));
    };
    first =
        take-map (λ (v : ℕ). nat_eq v 1) (length known) wires
        ∙ ap bits_of (solved.carried.constants ∙ sym (constants_are known))
        ∙ known_bits known;
    values = λ wire is. set_has_bit circuit known wires given formed few solved (length circuit.gates) wire is;
  },
)
