-- What a gate gives, from the elements of the wires that it reads.
use Rattle.std.specs.Prelude.{ℕ, ◌<◌, List, slice_set}
use Rattle.zk_model.specs.Field.{◌+ₚ◌, ◌*ₚ◌, from_word}
use Rattle.zk_model.specs.Arithmetic.{element_of}
use Rattle.zk_model.specs.declared.ArithRow.{ArithRow}
use Rattle.zk_model.specs.declared.ArithRow.TheVariants.{Add, Mul, Const, Assert}

-- the wires of a gate are below a number of wires
abbrev pub IsWithin : ℕ → ArithRow → Type 0
IsWithin wires (Add a b out) = (a < wires) × (b < wires) × (out < wires)
IsWithin wires (Mul a b out) = (a < wires) × (b < wires) × (out < wires)
IsWithin wires (Const value out) = out < wires
IsWithin wires (Assert a) = a < wires

-- the elements after a gate
abbrev pub elements_after : List ℕ → ArithRow → List ℕ
elements_after elements (Add a b out) = slice_set elements out (element_of elements a +ₚ element_of elements b)
elements_after elements (Mul a b out) = slice_set elements out (element_of elements a *ₚ element_of elements b)
elements_after elements (Const value out) = slice_set elements out (from_word value)
elements_after elements (Assert a) = elements
