-- The words after a command's name, as they may stand.
use Rattle.std.specs.Prelude.{◌≡◌, ℕ, List, [], ◌∷◌, false}
use Rattle.command_words.specs.Arguments.{Positional, Valued, Flag, kind_of, begins_with_dash, Word}

-- places in their order, and options anywhere among them in theirs
pub data StandsAmong : List (List ℕ) → List (List ℕ) → List Word → Type 0 where
  nothing : StandsAmong [] [] []
  place : {word : List ℕ} {words positional : List (List ℕ)} {options : List Word}
      → kind_of word ≡ Positional → StandsAmong words positional options → StandsAmong (word ∷ words) (word ∷ positional) options
  valued : {word value : List ℕ} {words positional : List (List ℕ)} {options : List Word}
      → kind_of word ≡ Valued → begins_with_dash value ≡ false → StandsAmong words positional options
      → StandsAmong (word ∷ value ∷ words) positional ((word, value) ∷ options)
  flag : {word : List ℕ} {words positional : List (List ℕ)} {options : List Word}
      → kind_of word ≡ Flag → StandsAmong words positional options → StandsAmong (word ∷ words) positional ((word, []) ∷ options)
