-- The steps that packed rules say.
use Rattle.std.specs.Prelude.{◌≡◌, Some, slice_get, slice_index, ℕ, ◌+◌, ◌-◌, List, [], ◌∷◌}
use Rattle.zk_model.specs.Bits.{from_bit}
use Rattle.zk_model.specs.Program.{Program}
use Rattle.zk_model.specs.declared.Product.{Product}
use Rattle.field_program.specs.Counts.{unchecked}
use Rattle.packed_gates.specs.PackedSteps.{factors_of}
use Rattle.packed_gates.specs.declared.packed.Factors.{Factors}
use Rattle.packed_gates.specs.declared.packed.PackedStep.{PackedStep}
use Rattle.packed_gates.specs.declared.packed.PackedStep.TheVariants.{Bit, Copy, Not, Mul, XorFrom, Sum, Const, Assert}
use Rattle.packed_gates.specs.declared.packed.Tables.{Tables}
use Rattle.field_program.specs.declared.step.Step.{Step}
use Rattle.field_program.specs.declared.step.Step.TheVariants as step

-- the step that a rule says, whose given value comes behind so many inputs; an assertion says one that nothing reads
abbrev pub step_of : ℕ → Tables → PackedStep → Step
step_of inputs tables (Bit out value) = step.Const out (from_bit value)
step_of inputs tables (Copy out a) = step.Copy out a
step_of inputs tables (Not out a) = step.Not out a
step_of inputs tables (Mul out product) =
    step.Mul out (factors_of tables.factors.items product).a (factors_of tables.factors.items product).b (inputs + product)
step_of inputs tables (XorFrom out product) =
    step.XorFrom out (factors_of tables.factors.items product).a (factors_of tables.factors.items product).b (inputs + product)
step_of inputs tables (Sum out sum) = step.Add out (factors_of tables.sums.items sum).a (factors_of tables.sums.items sum).b
step_of inputs tables (Const out constant) = step.Const out (slice_index tables.constants.items constant)
step_of inputs tables (Assert a) = step.Const a 0

-- the products of these factors, numbered from this number on
abbrev pub numbered : ℕ → List Factors → List Product
numbered number [] = []
numbered number (factors ∷ others) = record { a = factors.a; b = factors.b; c = number } ∷ numbered (number + 1) others

-- a step that takes a given value has the factors of the product whose value that is
abbrev pub HasFactors : Program → Step → Type 0
HasFactors program (step.Const out value) = Unit {0}
HasFactors program (step.Copy out a) = Unit {0}
HasFactors program (step.Not out a) = Unit {0}
HasFactors program (step.Add out a b) = Unit {0}
HasFactors program (step.Mul out a b product) =
    slice_get program.products (product - unchecked program) ≡ Some (record { a = a; b = b; c = product })
HasFactors program (step.XorFrom out a b product) =
    slice_get program.products (product - unchecked program) ≡ Some (record { a = a; b = b; c = product })
