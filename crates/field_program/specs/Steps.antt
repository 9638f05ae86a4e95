-- What a step of the program says.
use Rattle.std.specs.Prelude.{ℕ, List, [], ◌∷◌, map, Option, None, Some}
use Rattle.zk_model.specs.Boolean.{once, less_once, less_twice}
use Rattle.zk_model.specs.Program as model
use Rattle.field_program.specs.declared.step.Step.{Step}
use Rattle.field_program.specs.declared.step.Step.TheVariants.{Const, Copy, Not, Add, Mul, XorFrom}

-- the linear equation of a step: the constant; a; 1 - a; a + b; the given value; a + b less twice the given value
abbrev pub step_equation : Step → model.Step
step_equation (Const out value) = record { out = out; wires = []; given = []; constant = value }
step_equation (Copy out a) = record { out = out; wires = once a ∷ []; given = []; constant = 0 }
step_equation (Not out a) = record { out = out; wires = less_once a ∷ []; given = []; constant = 1 }
step_equation (Add out a b) = record { out = out; wires = once a ∷ once b ∷ []; given = []; constant = 0 }
step_equation (Mul out a b product) =
    record { out = out; wires = []; given = once product ∷ []; constant = 0 }
step_equation (XorFrom out a b product) =
    record { out = out; wires = once a ∷ once b ∷ []; given = less_twice product ∷ []; constant = 0 }

-- the equations of steps, in order
abbrev pub equations : List Step → List model.Step
equations steps = map step_equation steps

-- the number of the given value that a step takes, if it takes one
abbrev pub value_taken : Step → Option ℕ
value_taken (Const out value) = None
value_taken (Copy out a) = None
value_taken (Not out a) = None
value_taken (Add out a b) = None
value_taken (Mul out a b product) = Some product
value_taken (XorFrom out a b product) = Some product
