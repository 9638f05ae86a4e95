-- The programs that are held.
use Rattle.std.specs.Prelude.{◌≡◌, ℕ, ◌+◌, ◌-◌, ◌<◌, ◌≤◌, ◌⊎◌, List, ◌++◌, map, flat_map, drop, length, slice_get, Some}
use Rattle.std.specs.List.{range_with_len}
use Rattle.zk_model.specs.Program.{Step, Program, IsProgram, IsOrdered}
use Rattle.zk_model.specs.Boolean.{bit_check}
use Rattle.zk_model.specs.declared.Product.{Product}
use Rattle.field_program.specs.Counts.{unchecked}
use Rattle.field_program.specs.Rules.{step_of, numbered}
use Rattle.field_program.specs.Steps.{equations}
use Rattle.packed_gates.specs.declared.packed.Factors.{Factors}
use Rattle.packed_gates.specs.declared.packed.PackedStep.{PackedStep}
use Rattle.packed_gates.specs.declared.packed.Tables.{Tables}
use Rattle.zk_model.specs.declared.limits.TheConstants.{MAX_GATES, MAX_WIRES}

-- the products of a program with so many public wires, inputs and inputs that are not checked: the bit checks of the other inputs, and
-- the products with these factors
abbrev pub products_with : ℕ → ℕ → ℕ → List Factors → List Product
products_with public inputs unchecked factors =
    drop unchecked (map (bit_check public) (range_with_len 0 inputs)) ++ numbered inputs factors

-- the program of these parts: how many wires there are, and how many are public, inputs, and inputs that are not checked; the rules of the
-- steps, what they name, and the wires that are opened
abbrev pub program_of : ℕ → ℕ → ℕ → ℕ → List PackedStep → Tables → List ℕ → Program
program_of wires public inputs unchecked rules tables opened = record {
  wires = wires;
  public = public;
  inputs = inputs;
  steps = equations (map (step_of inputs tables) rules);
  givens = inputs + length tables.factors.items;
  products = products_with public inputs unchecked tables.factors.items;
  opened = opened;
}

-- the numbers of the given values that steps take, in order
abbrev pub values_taken : List Step → List ℕ
values_taken steps = flat_map (λ step. map (λ term. term.place) step.given) steps

-- a product has the wire of the private input that is its value for both factors
abbrev pub IsBitCheck : Program → Product → Type 0
IsBitCheck program product = (product.a ≡ program.public + product.c) × (product.b ≡ program.public + product.c)

-- A program within the limits of the circuits that are read, whose steps take no product before its factors are set. Bit checks are
-- there of all private inputs, or of none. Each given value from the first that is checked on is that of a product, in order: the first
-- products are the bit checks, and steps take the others in order, each once.
pub record IsSmallProgram (program : Program) : Type 0 where
  pub formed : IsProgram program
  pub ordered : IsOrdered program
  pub wires : program.wires ≤ MAX_WIRES
  pub givens : program.givens ≤ MAX_WIRES
  pub products : length program.products ≤ MAX_WIRES
  pub counted : length program.products + unchecked program ≡ program.givens
  pub all_or_none : (unchecked program ≡ 0) ⊎ (unchecked program ≡ program.inputs)
  pub numbered : (i : ℕ) (product : Product) → slice_get program.products i ≡ Some product → product.c ≡ unchecked program + i
  pub opened : length program.opened ≤ MAX_WIRES + MAX_GATES
  pub checks : (i : ℕ) (product : Product) → slice_get program.products i ≡ Some product → product.c < program.inputs → IsBitCheck program product
  pub taken : values_taken program.steps ≡ range_with_len program.inputs (program.givens - program.inputs)
