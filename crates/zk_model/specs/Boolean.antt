-- A Boolean circuit as a program over the field (Yang, Sarkar, Weng and Wang, QuickSilver, ACM CCS 2021).
use Rattle.std.specs.Prelude.{ℕ, ◌+◌, ◌-◌, ◌&&◌, Bool, List, [], ◌∷◌, ◌++◌, map, flat_map, take, sum_by}
use Rattle.std.specs.List.{range_with_len, enumerate_from}
use Rattle.zk_model.specs.Bits.{from_bit}
use Rattle.zk_model.specs.Field.{prime}
use Rattle.zk_model.specs.Circuit.{Circuit, output_wire, bit_of}
use Rattle.zk_model.specs.Program.{Term, Step, Program}
use Rattle.zk_model.specs.declared.GateRow.{GateRow}
use Rattle.zk_model.specs.declared.GateRow.TheVariants.{And, Xor, Inv, Eqw, Eq}
use Rattle.zk_model.specs.declared.Product.{Product}

-- ---- one gate

-- a wire or a given value as it is
abbrev pub once : ℕ → Term
once place = record { factor = 1; place = place }

-- less a wire
abbrev pub less_once : ℕ → Term
less_once place = record { factor = prime - 1; place = place }

-- less twice a given value
abbrev pub less_twice : ℕ → Term
less_twice place = record { factor = prime - 2; place = place }

-- The equation of a gate whose product, if it has one, is given value c: c for AND, a + b - 2c for XOR, 1 - a for INV,
-- a for EQW, and the constant for EQ.
abbrev pub gate_step : ℕ → GateRow → Step
gate_step c (And a b out) = record { out = out; wires = []; given = once c ∷ []; constant = 0 }
gate_step c (Xor a b out) = record { out = out; wires = once a ∷ once b ∷ []; given = less_twice c ∷ []; constant = 0 }
gate_step c (Inv a out) = record { out = out; wires = less_once a ∷ []; given = []; constant = 1 }
gate_step c (Eqw a out) = record { out = out; wires = once a ∷ []; given = []; constant = 0 }
gate_step c (Eq bit out) = record { out = out; wires = []; given = []; constant = from_bit bit }

-- the product of an XOR or an AND; no other gate has one
abbrev pub gate_products : ℕ → GateRow → List Product
gate_products c (And a b out) = record { a = a; b = b; c = c } ∷ []
gate_products c (Xor a b out) = record { a = a; b = b; c = c } ∷ []
gate_products c (Inv a out) = []
gate_products c (Eqw a out) = []
gate_products c (Eq bit out) = []

-- how many products a gate has
abbrev pub products_in : GateRow → ℕ
products_in (And a b out) = 1
products_in (Xor a b out) = 1
products_in (Inv a out) = 0
products_in (Eqw a out) = 0
products_in (Eq bit out) = 0

-- ---- the whole circuit, with this many of its first inputs public

-- how many inputs are private
abbrev pub private_inputs : ℕ → Circuit → ℕ
private_inputs public circuit = circuit.inputs - public

-- the given value of gate n's product, if it has one: after the private inputs and the products of the gates before it
abbrev pub given_of_gate : ℕ → Circuit → ℕ → ℕ
given_of_gate public circuit n = private_inputs public circuit + sum_by products_in (take n circuit.gates)

-- what stands for each gate, by the given value of its product
abbrev pub by_gate : {A : Type 0} → ℕ → Circuit → (ℕ → GateRow → A) → List A
by_gate public circuit item =
    map (λ entry. item (given_of_gate public circuit entry.0) entry.1) (enumerate_from 0 circuit.gates)

-- private input i times itself, which is that input again exactly where it is 0 or 1
abbrev pub bit_check : ℕ → ℕ → Product
bit_check public i = record { a = public + i; b = public + i; c = i }

-- a bit check for each private input, then a product for each XOR and AND in order of gates
abbrev pub circuit_products : ℕ → Circuit → List Product
circuit_products public circuit =
    map (bit_check public) (range_with_len 0 (private_inputs public circuit))
    ++ flat_map (λ products. products) (by_gate public circuit gate_products)

-- the program of a circuit: a step for each gate, and the outputs are opened
abbrev pub circuit_program : ℕ → Circuit → Program
circuit_program public circuit = record {
  wires = circuit.wires;
  public = public;
  inputs = private_inputs public circuit;
  steps = by_gate public circuit gate_step;
  givens = private_inputs public circuit + sum_by products_in circuit.gates;
  products = circuit_products public circuit;
  opened = map (output_wire circuit) (range_with_len 0 circuit.outputs);
}

-- the products of the bits of two wires, for each product
abbrev pub bits_of_products : List Product → List Bool → List ℕ
bits_of_products products bits = map (λ product. from_bit (bit_of bits product.a && bit_of bits product.b)) products

-- the given values that bits of all wires make: product i has given value i
abbrev pub products_of_bits : ℕ → Circuit → List Bool → List ℕ
products_of_bits public circuit bits = bits_of_products (circuit_products public circuit) bits
