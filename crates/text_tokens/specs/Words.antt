-- A text as words, whose numbers fit 64 bits, one after another.
use Rattle.std.specs.Prelude.{◌≡◌, ℕ, ◌+◌, true, false, List, [], ◌∷◌, ◌++◌, length, min}
use Rattle.zk_model.specs.Bristol.{Lexeme, number, name, lexemes, is_blank}
use Rattle.zk_model.specs.ArithFaults.{Place}
use Rattle.text_tokens.specs.declared.tokens.Next.{Next}
use Rattle.text_tokens.specs.declared.tokens.Next.TheVariants as next
use Rattle.text_tokens.specs.declared.tokens.Word.{Word}
use Rattle.text_tokens.specs.declared.tokens.Word.TheVariants.{Number, Name}

-- the greatest number of a word, which also stands for all greater numbers
abbrev pub greatest : ℕ
greatest = 18446744073709551615

-- what a lexeme says
unfoldable pub word_of : Lexeme → Word
word_of (number n) = Number (min n greatest)
word_of (name text) = Name

-- ---- where blanks end and begin

-- a text that is empty or begins with no blank
abbrev pub BeginsToken : List ℕ → Type 0
BeginsToken [] = Unit {0}
BeginsToken (byte ∷ text) = is_blank byte ≡ false

-- a text that is empty or begins with a blank
abbrev pub EndsToken : List ℕ → Type 0
EndsToken [] = Unit {0}
EndsToken (byte ∷ text) = is_blank byte ≡ true

-- ---- places in a text

-- the lexemes of what is left of a text
unfoldable pub left_of : List ℕ → List Lexeme
left_of rest = lexemes rest

abbrev pub place_of : List ℕ → ℕ → Place
place_of rest taken = record { left = left_of rest; taken = taken }

-- these tokens stand between two places
pub record Takes (part : List Lexeme) (before after : Place) : Type 0 where
  pub left : before.left ≡ part ++ after.left
  pub taken : after.taken ≡ before.taken + length part

-- a number stands there, which is read so
pub record TakesNumber (before after : Place) (shown : ℕ) : Type 0 where
  pub exact : ℕ
  pub shown_is : shown ≡ min exact greatest
  pub takes : Takes (number exact ∷ []) before after

-- what the next token is; at the end nothing is taken
abbrev pub IsNext : Place → Place → Next → Type 0
IsNext before after next.End = (before.left ≡ []) × (after ≡ before)
IsNext before after (next.Name text) = Takes (name text.now ∷ []) before after
IsNext before after (next.Number n) = TakesNumber before after n
