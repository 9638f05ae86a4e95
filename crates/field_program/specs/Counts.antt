-- How many inputs a program does not check.
use Rattle.std.specs.Prelude.{ℕ, ◌-◌, length}
use Rattle.zk_model.specs.Program.{Program}

-- how many of the first given values have no product: inputs that no bit check says to be 0 or 1
abbrev pub unchecked : Program → ℕ
unchecked program = program.givens - length program.products
