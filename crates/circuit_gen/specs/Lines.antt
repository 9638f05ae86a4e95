-- Gates that read what is before them, and their lines.
use Rattle.std.specs.Prelude.{ℕ, ◌<◌, List, ◌++◌, codes}
use Rattle.std.specs.List.{AllByRecursion}
use Rattle.std.specs.Fmt.{decimal}
use Rattle.zk_model.specs.Circuit.{wire_set, wires_read}
use Rattle.zk_model.specs.declared.GateRow.{GateRow}

-- a gate reads only wires before the one that it sets
abbrev pub ReadsEarlier : GateRow → Type 0
ReadsEarlier gate = AllByRecursion (λ wire. wire < wire_set gate) (wires_read gate)

-- the line of a gate with two inputs, whose name has the space before it and the line feed
abbrev pub two_input_line : List ℕ → ℕ → ℕ → ℕ → List ℕ
two_input_line name a b out =
    codes "2 1 " ++ (decimal a ++ (codes " " ++ (decimal b ++ (codes " " ++ (decimal out ++ name)))))

-- the same of a gate with one input
abbrev pub single_line : List ℕ → ℕ → ℕ → List ℕ
single_line name a out = codes "1 1 " ++ (decimal a ++ (codes " " ++ (decimal out ++ name)))
