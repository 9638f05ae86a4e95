-- Bits that satisfy a circuit solve its program.
use Rattle.std.proofs.Common.{◌≡◌, ℕ, zero, suc, ◌+◌, ◌<◌, ◌≤◌, Bool, true, false, ◌&&◌, List, [], ◌∷◌, map, take, drop, length, refl, sym, ◌∙◌, ap, subst, arith, lit<}
use Rattle.std.specs.Prelude.{All, get_or, slice_index}
use Rattle.std.specs.List.{take-map}
use Rattle.std.proofs.Math.ListN.{length-take}
use Rattle.std.proofs.lemmas.List.{length-map, length-drop, take-take, get_or-map, get_or-take, get_or-drop, ext_get_or}
use Rattle.std.proofs.lemmas.List.Elements.{All-map}
use Rattle.std.proofs.lemmas.List.FromFn.{length-range_with_len}
use Rattle.std.proofs.lemmas.Option.{slice_get-get_or}
use Rattle.zk_model.specs.Bits.{from_bit}
use Rattle.zk_model.specs.Field.{IsElement, ◌*ₚ◌}
use Rattle.zk_model.specs.Circuit.{Circuit, bit_of, AreWireBits, wire_set}
use Rattle.zk_model.specs.Program.{MeetsStep, Multiplies}
use Rattle.zk_model.specs.Boolean.{private_inputs, given_of_gate, circuit_products, circuit_program, products_of_bits}
use Rattle.circuit_laws.specs.Circuits.{BitsSolve}
use Rattle.circuit_laws.proofs.CircuitIsProgram.{step_sets, gate_of_step, numbered, nth_value}
use Rattle.circuit_laws.proofs.GateValues.{and_value, bit_set, gate_value, of_gate, of_bit_check}
use Rattle.zk_model.specs.declared.Product.{Product}

-- the value of a wire is its bit's
pub value_of_bit : (bits : List Bool) (k : ℕ) → slice_index (map from_bit bits) k ≡ from_bit (bit_of bits k)
value_of_bit [] k = refl
value_of_bit (bit ∷ bits) zero = refl
value_of_bit (bit ∷ bits) (suc k) = value_of_bit bits k

pub bit_element : (bit : Bool) → IsElement (from_bit bit)
bit_element false = lit< tt
bit_element true = lit< tt

-- bits as public values
pub constants_are : (bits : List Bool) → map from_bit bits ≡ map (λ value. value *ₚ 1) (map from_bit bits)
constants_are [] = refl
constants_are (false ∷ bits) = ap (λ l. 0 ∷ l) (constants_are bits)
constants_are (true ∷ bits) = ap (λ l. 1 ∷ l) (constants_are bits)

-- the products of bits
abbrev product_bit : List Bool → Product → ℕ
product_bit bits product = from_bit (bit_of bits product.a && bit_of bits product.b)

-- every product is right
multiplies : (public : ℕ) (circuit : Circuit) (bits : List Bool)
    → All (Multiplies (map from_bit bits) (products_of_bits public circuit bits)) (circuit_products public circuit)
multiplies public circuit bits n d below =
    let products = circuit_products public circuit in
    let product = get_or products n d in
    ap (slice_index (products_of_bits public circuit bits))
    (nth_value products (circuit_program public circuit).givens n product (numbered public circuit) (slice_get-get_or products n d below))
    ∙ get_or-map (product_bit bits) products n d 0 below
    ∙ and_value (bit_of bits product.a) (bit_of bits product.b)
    ∙ sym (λ i. value_of_bit bits product.a i *ₚ value_of_bit bits product.b i)

-- every step is met
steps_met : (public : ℕ) (circuit : Circuit) (inputs bits : List Bool) → AreWireBits circuit inputs bits
    → All (MeetsStep 1 (map from_bit bits) (products_of_bits public circuit bits)) (circuit_program public circuit).steps
steps_met public circuit inputs bits met n d below =
    let steps = (circuit_program public circuit).steps in
    let wires = map from_bit bits in
    let given = products_of_bits public circuit bits in
    let found = gate_of_step public circuit n (get_or steps n d) (slice_get-get_or steps n d below) in
    let c = given_of_gate public circuit n in
    subst (MeetsStep 1 wires given) (sym found.2)
    (ap (slice_index wires) (step_sets c found.0)
    ∙ value_of_bit bits (wire_set found.0)
    ∙ ap from_bit (bit_set bits found.0 (met.gates n found.0 found.1))
    ∙ sym (gate_value bits wires given c found.0
    (λ k e less. value_of_bit bits _)
    (of_gate (Multiplies wires given) public circuit n found.0 (multiplies public circuit bits) found.1)))

-- the private inputs are the first given values
inputs_given : (public : ℕ) (circuit : Circuit) (bits : List Bool) → public ≤ circuit.inputs → circuit.inputs ≤ length bits
    → take (private_inputs public circuit) (drop public (map from_bit bits)) ≡ take (private_inputs public circuit) (products_of_bits public circuit bits)
inputs_given public circuit bits few within =
    ext_get_or 0 (take private (drop public wires)) (take private given) (counted ∙ sym given_count)
    (λ i below.
    let less : i < private = omega (arith, counted, below) in
    get_or-take private (drop public wires) i 0 less
    ∙ get_or-drop public wires i 0
    ∙ square i less
    ∙ sym (get_or-take private given i 0 less))
  where
    private : ℕ
    private = private_inputs public circuit

    wires : List ℕ
    wires = map from_bit bits

    given : List ℕ
    given = products_of_bits public circuit bits

    counted : length (take private (drop public wires)) ≡ private
    counted =
        let taken = length-take private (drop public wires) in
        let dropped = length-drop public wires in
        let mapped = length-map bits from_bit in
        omega (arith, taken, dropped, mapped, few, within)

    given_count : length (take private given) ≡ private
    given_count =
        let taken = length-take private given in
        let all : length given ≡ (circuit_program public circuit).givens =
        length-map (circuit_products public circuit) (product_bit bits)
        ∙ sym (length-map (circuit_products public circuit) (λ product. product.c))
        ∙ ap length (numbered public circuit) ∙ length-range_with_len 0 (circuit_program public circuit).givens in
        omega (arith, taken, all)

    same_value : (x : Bool) → from_bit x ≡ from_bit x *ₚ from_bit x
    same_value false = refl
    same_value true = refl

    square : (i : ℕ) → i < private → slice_index wires (public + i) ≡ slice_index given i
    square i less =
        value_of_bit bits (public + i)
        ∙ same_value (bit_of bits (public + i))
        ∙ sym (λ k. value_of_bit bits (public + i) k *ₚ value_of_bit bits (public + i) k)
        ∙ sym (of_bit_check (Multiplies wires given) public circuit i (multiplies public circuit bits) less)

pub bits_solve : BitsSolve
bits_solve public circuit inputs bits formed few met = record {
  carried = record {
    whole = length-map bits from_bit ∙ met.whole;
    constants =
        take-map from_bit public bits
        ∙ ap (map from_bit) (sym (take-take public circuit.inputs bits few) ∙ ap (take public) met.first)
        ∙ constants_are (take public inputs);
    inputs = inputs_given public circuit bits few (let whole = met.whole in let within = formed.inputs_within in omega (arith, whole, within));
    steps = steps_met public circuit inputs bits met;
  };
  count =
      length-map (circuit_products public circuit) (product_bit bits)
      ∙ sym (length-map (circuit_products public circuit) (λ product. product.c))
      ∙ ap length (numbered public circuit) ∙ length-range_with_len 0 (circuit_program public circuit).givens;
  elements = All-map IsElement (product_bit bits) (circuit_products public circuit) (λ n d below. bit_element _);
  multiplied = multiplies public circuit bits;
}
