-- What clap takes of words that are read.
use Rattle.std.specs.Prelude.{◌≡◌, ℕ, List, [], ◌∷◌, drop, Some}
use Rattle.clap.specs.Faults.{fault_of}
use Rattle.command_words.specs.BitWords.{BitsAsk}
use Rattle.command_words.specs.Found.{AreAlike, told}
use Rattle.command_words.specs.Rows.{named, row_of}
use Rattle.command_words.specs.Words.{Ask, asked}
use Rattle.command_words.specs.declared.table.Name.{Name}

-- clap takes the words as those of a command, and some valid words of the same command, which clap reads to the same matches, ask for this
pub record IsReadAs (words : List (List ℕ)) (ask : Ask BitsAsk) : Type 0 where
  pub name : List ℕ
  pub begins : words ≡ name ∷ drop 1 words
  pub command : Name
  pub named : named name ≡ Some command
  pub faultless : fault_of (told (row_of command)) words ≡ []
  pub others : List (List ℕ)
  pub asks : asked (name ∷ others) ≡ Some ask
  pub alike : AreAlike (row_of command) words (name ∷ others)
