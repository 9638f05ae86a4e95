-- Boolean circuits and their programs: satisfying the truth tables is solving the equations, both ways.
use Rattle.std.specs.Prelude.{◌≡◌, ℕ, ◌+◌, ◌≤◌, Bool, List, ◌++◌, length, map, take, drop, slice_index}
use Rattle.std.specs.List.{range_with_len}
use Rattle.zk_model.specs.Bits.{from_bit}
use Rattle.zk_model.specs.Bytes.{AreBytes}
use Rattle.zk_model.specs.Circuit.{Circuit, bit_of, AreWireBits, Satisfies, IsSet, IsWellFormed}
use Rattle.zk_model.specs.Program.{Program, Carries, IsSetInAll, Solves, IsSolvedBy, IsProgram, IsOrdered, AreMade}
use Rattle.zk_model.specs.Boolean.{circuit_program, products_of_bits}
use Rattle.zk_model.specs.Statement.{IsStatement, circuit_statement}

-- a circuit, with some of its first inputs public, is a program
abbrev pub CircuitIsProgram : Type 0
CircuitIsProgram = (public : ℕ) (circuit : Circuit) → IsWellFormed circuit → public ≤ circuit.inputs
    → IsProgram (circuit_program public circuit)

-- whose steps take no product before its factors are set
abbrev pub CircuitIsOrdered : Type 0
CircuitIsOrdered = (public : ℕ) (circuit : Circuit) → IsWellFormed circuit → public ≤ circuit.inputs
    → IsOrdered (circuit_program public circuit)

-- there are no more inputs and gates than wires
abbrev pub GatesAreFew : Type 0
GatesAreFew = (circuit : Circuit) → IsWellFormed circuit → circuit.inputs + length circuit.gates ≤ circuit.wires

-- product i has given value i, and each given value is that of a product
abbrev pub ProductsAreNumbered : Type 0
ProductsAreNumbered = (public : ℕ) (circuit : Circuit)
    → map (λ product. product.c) (circuit_program public circuit).products
    ≡ range_with_len 0 (circuit_program public circuit).givens

-- claims of a circuit's outputs are a statement, with some of its first inputs public
abbrev pub CircuitIsStatement : Type 0
CircuitIsStatement = (circuit : Circuit) (digest : List ℕ) (public outputs : List Bool) → IsWellFormed circuit
    → AreBytes 32 digest → length public ≤ circuit.inputs → length outputs ≡ circuit.outputs
    → IsStatement (circuit_statement circuit digest public outputs)

-- the input bits determine the outputs
abbrev pub OneOutcome : Type 0
OneOutcome = (circuit : Circuit) (inputs some others : List Bool) → IsWellFormed circuit
    → Satisfies circuit inputs some → Satisfies circuit inputs others → some ≡ others

-- these bits of all wires begin with the known ones, and are the values of every wire that is set
pub record AreBitsOf (circuit : Circuit) (known bits : List Bool) (wires : List ℕ) : Type 0 where
  pub bits_of_wires : AreWireBits circuit (take circuit.inputs bits) bits
  pub first : take (length known) bits ≡ known
  pub values : (wire : ℕ) → IsSet circuit (length circuit.gates) wire → slice_index wires wire ≡ from_bit (bit_of bits wire)

-- values that solve a circuit's program over public bits are bits on every wire that is set, and these satisfy it
abbrev pub SolvedByBits : Type 0
SolvedByBits = (circuit : Circuit) (known : List Bool) (wires given : List ℕ) → IsWellFormed circuit
    → length known ≤ circuit.inputs → Solves (circuit_program (length known) circuit) (map from_bit known) wires given
    → (bits : List Bool) × AreBitsOf circuit known bits wires

-- bits that satisfy a circuit solve its program
abbrev pub BitsSolve : Type 0
BitsSolve = (public : ℕ) (circuit : Circuit) (inputs bits : List Bool) → IsWellFormed circuit → public ≤ circuit.inputs
    → AreWireBits circuit inputs bits
    → Solves (circuit_program public circuit) (map from_bit (take public inputs)) (map from_bit bits)
    (products_of_bits public circuit bits)

-- and are what their first ones, where these are public, and the other inputs make
abbrev pub BitsAreMade : Type 0
BitsAreMade = (public : ℕ) (circuit : Circuit) (inputs bits : List Bool) → IsWellFormed circuit → public ≤ circuit.inputs
    → AreWireBits circuit inputs bits
    → AreMade (circuit_program public circuit) (map from_bit (take public inputs)) (map from_bit (drop public inputs))
    (map from_bit bits) (products_of_bits public circuit bits)

-- private inputs and claims that are bits, of which the circuit gives the claims
pub record AreSatisfying (circuit : Circuit) (known : List Bool) (inputs claims : List ℕ) : Type 0 where
  pub input_bits : List Bool
  pub output_bits : List Bool
  pub inputs_are : inputs ≡ map from_bit input_bits
  pub claims_are : claims ≡ map from_bit output_bits
  pub satisfied : Satisfies circuit (known ++ input_bits) output_bits

-- what solves a circuit's program is bits that satisfy it
abbrev pub SolvedIsSatisfied : Type 0
SolvedIsSatisfied = (circuit : Circuit) (known : List Bool) (inputs claims : List ℕ) → IsWellFormed circuit
    → length known ≤ circuit.inputs
    → IsSolvedBy (circuit_program (length known) circuit) (map from_bit known) inputs claims
    → AreSatisfying circuit known inputs claims

-- and bits that satisfy a circuit solve its program
abbrev pub SatisfiedIsSolved : Type 0
SatisfiedIsSolved = (circuit : Circuit) (known inputs outputs : List Bool) → IsWellFormed circuit
    → length known ≤ circuit.inputs → Satisfies circuit (known ++ inputs) outputs
    → IsSolvedBy (circuit_program (length known) circuit) (map from_bit known) (map from_bit inputs) (map from_bit outputs)

-- the given values determine every wire that is set
abbrev pub OneOnSetWires : Type 0
OneOnSetWires = (one : ℕ) (program : Program) (public given some others : List ℕ) (wire : ℕ) → IsProgram program
    → Carries one program public given some → Carries one program public given others → IsSetInAll program wire
    → slice_index some wire ≡ slice_index others wire

-- public values and inputs make one list of given values
abbrev pub OneMade : Type 0
OneMade = (program : Program) (public inputs some_wires some other_wires others : List ℕ) → IsProgram program
    → IsOrdered program → AreMade program public inputs some_wires some → AreMade program public inputs other_wires others
    → some ≡ others
