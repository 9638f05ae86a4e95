-- Tokens as words, whose numbers fit 32 bits.
use Rattle.std.specs.Prelude.{◌≡◌, ℕ, if◌then◌else◌, List, [], ◌∷◌, codes, min}
use Rattle.std.specs.Str.{bytes_eq}
use Rattle.zk_model.specs.Bristol.{Lexeme, number, name}
use Rattle.zk_model.specs.ArithFaults.{Place}
use Rattle.text_tokens.specs.Words.{Takes}
use Rattle.bristol_reader.specs.declared.tokens.GateName.{GateName}
use Rattle.bristol_reader.specs.declared.tokens.GateName.TheVariants.{And, Xor, Inv, Eq, Eqw, Other}
use Rattle.bristol_reader.specs.declared.tokens.Word.{Word}
use Rattle.bristol_reader.specs.declared.tokens.Word.TheVariants.{Number, Name}

-- the greatest number of a word, which also stands for all greater numbers
abbrev pub greatest : ℕ
greatest = 4294967295

-- what a name says
unfoldable pub name_of : List ℕ → GateName
name_of text =
    if bytes_eq text (codes "AND") then And
    else if bytes_eq text (codes "XOR") then Xor
    else if bytes_eq text (codes "INV") then Inv
    else if bytes_eq text (codes "EQ") then Eq
    else if bytes_eq text (codes "EQW") then Eqw
    else Other

-- what a lexeme says
unfoldable pub word_of : Lexeme → Word
word_of (number n) = Number (min n greatest)
word_of (name text) = Name (name_of text)

-- one token stands there, which says this word
pub record TakesWord (before after : Place) (word : Word) : Type 0 where
  pub lexeme : Lexeme
  pub word_is : word ≡ word_of lexeme
  pub takes : Takes (lexeme ∷ []) before after
