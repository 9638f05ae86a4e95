-- Which wires the steps of a program set.
use Rattle.std.proofs.Common.{◌≡◌, ℕ, ◌<◌, ◌≤◌, arith, refl, inl, inr}
use Rattle.std.specs.Prelude.{Some, slice_get}
use Rattle.zk_model.specs.Program.{Step, Program, IsSet, IsProgram}

-- a wire that is set early is set later too
pub set_later : (program : Program) (k n wire : ℕ) → k ≤ n → IsSet program k wire → IsSet program n wire
set_later program k n wire later (inl first) = inl first
set_later program k n wire later (inr by) = inr (by.0, by.1, omega (arith, by.2, later), by.3, by.4)

-- a wire that is set is one of the program's
pub set_below : (program : Program) (n wire : ℕ) → IsProgram program → IsSet program n wire → wire < program.wires
set_below program n wire formed (inl first) = omega (arith, formed.first, first)
set_below program n wire formed (inr by) =
    let step = by.1 in omega (arith, (formed.steps by.0 step by.3).within, by.4)

-- a step sets its wire
pub sets_own : (program : Program) (n m : ℕ) (step : Step) → slice_get program.steps n ≡ Some step → n < m → IsSet program m step.out
sets_own program n m step at below = inr (n, step, below, at, refl)
