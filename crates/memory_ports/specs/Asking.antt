-- What a door in memory was asked.
use Rattle.std.specs.Prelude.{◌≡◌, ◌⊎◌, ℕ, List, [], ◌∷◌, ◌++◌, string_bytes}
use Rattle.memory_ports.specs.declared.memory_door.Asked.{Asked}

-- the address, and the patience
abbrev pub asked_of : Asked → List ℕ × ℕ
asked_of asked = (string_bytes asked.address, asked.patience)

-- what a refused call was given is noted after the others, or is not, where there was no memory for it
abbrev pub NotesAsked : List ℕ × ℕ → List (List ℕ × ℕ) → List (List ℕ × ℕ) → Type 0
NotesAsked given old new = (new ≡ old) ⊎ (new ≡ old ++ given ∷ [])
