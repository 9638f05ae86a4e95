-- A claim about an arithmetic circuit, as words name it.
use Rattle.std.specs.Prelude.{ℕ, List}

-- the file of the circuit, and that of the outputs
pub record NamedElements : Type 0 where
  pub circuit : List ℕ
  pub outputs : List ℕ

abbrev pub named_elements : List ℕ → List ℕ → NamedElements
named_elements circuit outputs = record { circuit = circuit; outputs = outputs }
