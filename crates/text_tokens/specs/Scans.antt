-- A token, byte by byte.
use Rattle.std.specs.Prelude.{◌≡◌, ℕ, ◌^◌, ◌<◌, ◌≤◌, Bool, true, false, List, ◌∷◌, length, take, drop, min, All}
use Rattle.std.specs.List.{list_all}
use Rattle.zk_model.specs.Bristol.{number, is_blank, is_digit, decimal_value, lexeme}
use Rattle.text_tokens.specs.declared.tokens.Scanned.{Scanned}
use Rattle.text_tokens.specs.Words.{greatest, word_of, left_of, EndsToken}

-- bytes without a blank: whether all are digits, and if so their number
pub record AreScanned (bytes : List ℕ) (is_number : Bool) (value : ℕ) : Type 0 where
  pub unbroken : All (λ byte. is_blank byte ≡ false) bytes
  pub digits : is_number ≡ list_all is_digit bytes
  pub value_is : is_number ≡ true → value ≡ min (decimal_value bytes) greatest

-- the first bytes of a text up to a blank, and the word that they say
pub record IsScanned (text : List ℕ) (scanned : Scanned) : Type 0 where
  pub within : scanned.length ≤ length text
  pub unbroken : All (λ byte. is_blank byte ≡ false) (take scanned.length text)
  pub ends : EndsToken (drop scanned.length text)
  pub word_is : scanned.word ≡ word_of (lexeme (take scanned.length text))

-- the first bytes of a text, at least one, up to a blank that is there
pub record IsEnded (text : List ℕ) (scanned : Scanned) : Type 0 where
  pub some : 0 < scanned.length
  pub within : scanned.length < length text
  pub is : IsScanned text scanned

-- the first token of a text is this number, and this is the text after it
pub record StartsNumber (text : List ℕ) (n : ℕ) (behind : List ℕ) : Type 0 where
  pub small : n < 10 ^ 8
  pub shorter : length behind < length text
  pub left : left_of text ≡ number n ∷ left_of behind
