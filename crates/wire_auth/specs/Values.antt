-- The values that public values and private inputs make.
use Rattle.std.specs.Prelude.{◌≡◌, ℕ, zero, suc, ◌+◌, ◌-◌, ◌≤◌, nat_lt, if◌then◌else◌, Bool, List, [], ◌++◌, length, map, take, drop, set, get_or, replicate, slice_index, slice_get, Some}
use Rattle.std.specs.List.{range_with_len}
use Rattle.zk_model.specs.Bits.{from_bit}
use Rattle.zk_model.specs.Field.{◌*ₚ◌}
use Rattle.zk_model.specs.Program.{Step, Program, IsProgram, IsOrdered, AreMade, Carries, step_value}
use Rattle.zk_model.specs.Circuit.{Circuit, IsWellFormed, AreWireBits}
use Rattle.zk_model.specs.Boolean.{circuit_program, products_of_bits}
use Rattle.zk_model.specs.declared.Product.{Product}
use Rattle.field_program.specs.Counts.{unchecked}

-- ---- of a program whose inputs are checked or not, and whose products have the other given values, in order

-- the value of a product: of the input that it checks, or of its two wires multiplied
abbrev pub given_value : Program → List ℕ → Product → ℕ
given_value program values product =
    if nat_lt product.c program.inputs then slice_index values (program.public + product.c)
    else slice_index values product.a *ₚ slice_index values product.b

-- the given values that values of all wires make: those of the inputs that no product checks, and then of the products
abbrev pub given_from : Program → List ℕ → List ℕ
given_from program values =
    map (λ i. slice_index values (program.public + i)) (range_with_len 0 (unchecked program)) ++ map (given_value program values) program.products

-- behind inputs that are not checked the given values are those of products, in order, and no step takes the value of a product before
-- its factors are set
pub record CanBeMade (program : Program) : Type 0 where
  pub formed : IsProgram program
  pub ordered : IsOrdered program
  pub counted : length program.products + unchecked program ≡ program.givens
  pub inputs : unchecked program ≤ program.inputs
  pub numbered : (i : ℕ) (product : Product) → slice_get program.products i ≡ Some product → product.c ≡ unchecked program + i

-- ---- the one list

-- values with that of one wire more, which a step sets
abbrev pub with_step : Program → List ℕ → Step → List ℕ
with_step program values step = set values step.out (step_value 1 values (given_from program values) step)

-- values after the first n steps
abbrev pub after_steps : Program → List ℕ → ℕ → List ℕ
after_steps program first zero = first
after_steps program first (suc n) = with_step program (after_steps program first n)
    (get_or program.steps n (record { out = 0; wires = []; given = []; constant = 0 }))

-- public values times the constant 1, inputs, and 0 for the wires that steps set
abbrev pub first_numbers : ℕ → Program → List ℕ → List ℕ → List ℕ
first_numbers one program public inputs =
    map (λ value. value *ₚ one) public ++ inputs ++ replicate (program.wires - (length public + length inputs)) 0

-- Values of all wires that are made of these public values and inputs, and the given values. Nothing is known of them but that they
-- are made, as `AreMade` says, and that no other given values are.
unfoldable pub wires_made : Program → List ℕ → List ℕ → List ℕ
wires_made program public inputs = after_steps program (first_numbers 1 program public inputs) (length program.steps)

unfoldable pub given_made : Program → List ℕ → List ℕ → List ℕ
given_made program public inputs = given_from program (wires_made program public inputs)

-- they are made
abbrev pub MadeExist : Type 0
MadeExist = (program : Program) (public inputs : List ℕ) → CanBeMade program → length public ≡ program.public
    → length inputs ≡ program.inputs
    → AreMade program public inputs (wires_made program public inputs) (given_made program public inputs)

-- ---- the one list of numbers, where the given values have these

-- numbers after the first n steps
abbrev pub after_numbers : ℕ → Program → List ℕ → List ℕ → ℕ → List ℕ
after_numbers one program given first zero = first
after_numbers one program given first (suc n) =
    let before = after_numbers one program given first n in
    let step = get_or program.steps n (record { out = 0; wires = []; given = []; constant = 0 }) in
    set before step.out (step_value one before given step)

-- The numbers of all wires that follow from these of the given values. Nothing is known of them but that they follow, as `Carries` says.
unfoldable pub numbers_carried : ℕ → Program → List ℕ → List ℕ → List ℕ
numbers_carried one program public given =
    after_numbers one program given (first_numbers one program public (take program.inputs given)) (length program.steps)

-- they follow
abbrev pub CarriedExist : Type 0
CarriedExist = (one : ℕ) (program : Program) (public given : List ℕ) → IsProgram program → length public ≡ program.public
    → program.inputs ≤ length given → Carries one program public given (numbers_carried one program public given)

-- ---- circuits

-- inputs of a circuit that are bits, of which the first may be public, make the products of the bits that it has on all wires
abbrev pub BitsMakeProducts : Type 0
BitsMakeProducts = (public : ℕ) (circuit : Circuit) (inputs bits : List Bool) → IsWellFormed circuit → public ≤ circuit.inputs
    → AreWireBits circuit inputs bits
    → given_made (circuit_program public circuit) (map from_bit (take public inputs)) (map from_bit (drop public inputs))
    ≡ products_of_bits public circuit bits
