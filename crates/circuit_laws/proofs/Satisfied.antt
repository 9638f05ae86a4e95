-- What solves a circuit's program is bits that satisfy it, and bits that satisfy it solve its program.
use Rattle.std.proofs.Common.{◌≡◌, ℕ, ◌+◌, ◌-◌, ◌<◌, ◌≤◌, inl, Bool, false, List, ◌++◌, map, take, drop, length, refl, sym, ◌∙◌, ap, subst, arith}
use Rattle.std.specs.Prelude.{get_or, slice_index}
use Rattle.std.specs.List.{range_with_len}
use Rattle.std.proofs.Math.ListN.{length-take, take-append-drop}
use Rattle.std.proofs.Math.Seq.{take-append_seam, drop-append_seam}
use Rattle.std.proofs.lemmas.List.{length-map, length-drop, take-take, drop-take, get_or-map, get_or-take, get_or-drop, ext_get_or}
use Rattle.std.proofs.lemmas.List.FromFn.{length-range_with_len, get_or-range_with_len}
use Rattle.zk_model.specs.Bits.{from_bit}
use Rattle.zk_model.specs.Circuit.{Circuit, bit_of, output_wire}
use Rattle.zk_model.specs.Program.{Solves, opened_values}
use Rattle.zk_model.specs.Boolean.{private_inputs, circuit_program, products_of_bits}
use Rattle.circuit_laws.specs.Circuits.{SolvedIsSatisfied, SatisfiedIsSolved}
use Rattle.circuit_laws.proofs.BitsSolve.{value_of_bit, bits_solve}
use Rattle.circuit_laws.proofs.GateValues.{HasBit}
use Rattle.circuit_laws.proofs.SolvedByBits.{solved_by_bits}

-- ---- outputs

-- where the outputs have the values of their bits, the opened values are the last bits
pub outputs_are : (public : ℕ) (circuit : Circuit) (bits : List Bool) (wires : List ℕ) → length bits ≡ circuit.wires → circuit.outputs ≤ circuit.wires
    → ((o : ℕ) → o < circuit.outputs → HasBit bits wires (output_wire circuit o))
    → opened_values (circuit_program public circuit) wires ≡ map from_bit (drop (output_wire circuit 0) bits)
outputs_are public circuit bits wires whole within values =
    ext_get_or 0 opened last (opened_count ∙ sym last_count) (λ o below.
    let less : o < circuit.outputs = omega (arith, opened_count, below) in
    let place : output_wire circuit 0 + o ≡ output_wire circuit o = omega arith in
    get_or-map (slice_index wires) (map (output_wire circuit) numbers) o 0 0 (omega (arith, mapped, less))
    ∙ ap (slice_index wires) (get_or-map (output_wire circuit) numbers o 0 0 (omega (arith, counted, less)) ∙ ap (output_wire circuit) (is_number o less))
    ∙ values o less
    ∙ ap from_bit (sym (get_or-drop (output_wire circuit 0) bits o false ∙ ap (bit_of bits) place))
    ∙ sym (value_of_bit (drop (output_wire circuit 0) bits) o))
  where
    numbers : List ℕ
    numbers = range_with_len 0 circuit.outputs

    opened : List ℕ
    opened = opened_values (circuit_program public circuit) wires

    last : List ℕ
    last = map from_bit (drop (output_wire circuit 0) bits)

    counted : length (range_with_len 0 circuit.outputs) ≡ circuit.outputs
    counted = length-range_with_len 0 circuit.outputs

    mapped : length (map (output_wire circuit) (range_with_len 0 circuit.outputs)) ≡ circuit.outputs
    mapped = length-map (range_with_len 0 circuit.outputs) (output_wire circuit) ∙ counted

    opened_count : length (opened_values (circuit_program public circuit) wires) ≡ circuit.outputs
    opened_count = length-map (map (output_wire circuit) (range_with_len 0 circuit.outputs)) (slice_index wires) ∙ mapped

    last_count : length (map from_bit (drop (output_wire circuit 0) bits)) ≡ circuit.outputs
    last_count =
        let dropped = length-drop (output_wire circuit 0) bits in
        let both = length-map (drop (output_wire circuit 0) bits) from_bit in
        omega (arith, both, dropped, whole, within)

    is_number : (o : ℕ) → o < circuit.outputs → get_or (range_with_len 0 circuit.outputs) o 0 ≡ o
    is_number o less = let is = get_or-range_with_len 0 circuit.outputs o 0 less in omega (arith, is)

-- ---- inputs

-- the first bits, and those after them up to a bound
split_bits : (k n : ℕ) (bits : List Bool) → k ≤ n → take n bits ≡ take k bits ++ take (n - k) (drop k bits)
split_bits k n bits few =
    let sum : k + (n - k) ≡ n = omega (arith, few) in
    sym (take-append-drop k (take n bits))
    ∙ (λ i. take-take k n bits few i ++ (ap (λ m. drop k (take m bits)) (sym sum) ∙ drop-take k (n - k) bits) i)

-- the bits behind the public ones
pub bits_behind : (public private : ℕ) {n : ℕ} (bits : List Bool) → public + private ≡ n → take private (drop public bits) ≡ drop public (take n bits)
bits_behind public private bits sum = sym (drop-take public private bits) ∙ ap (λ n. drop public (take n bits)) sum

-- values of bits on each of some wires in a row are the bits
pub inputs_are : (k n : ℕ) (bits : List Bool) (wires : List ℕ) → length bits ≡ length wires
    → ((i : ℕ) → i < n → HasBit bits wires (k + i))
    → take n (drop k wires) ≡ map from_bit (take n (drop k bits))
inputs_are k n bits wires same values =
    ext_get_or 0 (take n (drop k wires)) (map from_bit (take n (drop k bits))) counted (λ i below.
    let less : i < n = let taken = length-take n (drop k wires) in omega (arith, taken, below) in
    get_or-take n (drop k wires) i 0 less
    ∙ get_or-drop k wires i 0
    ∙ values i less
    ∙ ap from_bit (sym (get_or-take n (drop k bits) i false less ∙ get_or-drop k bits i false))
    ∙ sym (value_of_bit (take n (drop k bits)) i))
  where
    counted : length (take n (drop k wires)) ≡ length (map from_bit (take n (drop k bits)))
    counted =
        let left = length-take n (drop k wires) in
        let right = length-take n (drop k bits) in
        let left_rest = length-drop k wires in
        let right_rest = length-drop k bits in
        let both = length-map (take n (drop k bits)) from_bit in
        omega (arith, left, right, left_rest, right_rest, both, same)

-- ---- both ways

pub solved_is_satisfied : SolvedIsSatisfied
solved_is_satisfied circuit known inputs claims formed few solved =
    let public = length known in
    let found = solved_by_bits circuit known solved.wires solved.given formed few solved.solved in
    let bits = found.0 in
    let private = private_inputs public circuit in
    record {
      input_bits = take private (drop public bits);
      output_bits = drop (output_wire circuit 0) bits;
      inputs_are =
          sym solved.first
          ∙ sym solved.solved.carried.inputs
          ∙ inputs_are public private bits solved.wires (found.1.bits_of_wires.whole ∙ sym solved.solved.carried.whole)
          (λ i below. found.1.values (public + i) (inl (omega (arith, below, few))));
      claims_are =
          sym solved.last
          ∙ outputs_are public circuit bits solved.wires found.1.bits_of_wires.whole formed.outputs_within
          (λ o below. found.1.values (output_wire circuit o) (formed.outputs_set o below));
      satisfied = (
        bits,
        record {
          whole = found.1.bits_of_wires.whole;
          first = split_bits public circuit.inputs bits few ∙ ap (λ l. l ++ take private (drop public bits)) found.1.first;
          gates = found.1.bits_of_wires.gates;
        },
        refl,
      );
    }

pub satisfied_is_solved : SatisfiedIsSolved
satisfied_is_solved circuit known inputs outputs formed few satisfied =
    let public = length known in
    let bits = satisfied.0 in
    let private = private_inputs public circuit in
    let sum : public + private ≡ circuit.inputs = omega (arith, few) in
    let given = products_of_bits public circuit bits in
    let solved : Solves (circuit_program public circuit) (map from_bit known) (map from_bit bits) given =
    subst (λ (l : List Bool). Solves (circuit_program public circuit) (map from_bit l) (map from_bit bits) given)
    (take-append_seam known inputs) (bits_solve public circuit (known ++ inputs) bits formed few satisfied.1) in
    record {
      wires = map from_bit bits;
      given = given;
      solved = solved;
      first =
          sym solved.carried.inputs
          ∙ inputs_are public private bits (map from_bit bits) (sym (length-map bits from_bit)) (λ i below. value_of_bit bits (public + i))
          ∙ ap (map from_bit) (bits_behind public private bits sum ∙ ap (drop public) satisfied.1.first ∙ drop-append_seam known inputs);
      last =
          outputs_are public circuit bits (map from_bit bits) satisfied.1.whole formed.outputs_within (λ o below. value_of_bit bits (output_wire circuit o))
          ∙ ap (map from_bit) satisfied.2;
    }
