-- What is wanted of a text's next tokens.
use Rattle.std.specs.Prelude.{◌≡◌, ℕ, ◌+◌, Bool, if◌then◌else◌, Option, None, Some, List, [], ◌∷◌, ◌++◌, length, codes, min}
use Rattle.zk_model.specs.Bristol.{Lexeme, number}
use Rattle.bristol_reader.specs.TextFaults.{Want, first_lexeme_fault}
use Rattle.zk_model.specs.declared.ReadFault.{ReadFault}
use Rattle.bristol_reader.specs.declared.tokens.GateName.TheVariants.{And, Xor, Inv, Eq, Eqw}
use Rattle.bristol_reader.specs.declared.tokens.Word.{Word}
use Rattle.bristol_reader.specs.declared.tokens.Word.TheVariants.{Name}
use Rattle.bristol_reader.specs.declared.wants.BinaryGate.{BinaryGate}
use Rattle.bristol_reader.specs.declared.wants.BinaryGate.TheVariants as pair
use Rattle.bristol_reader.specs.declared.wants.UnaryGate.{UnaryGate}
use Rattle.bristol_reader.specs.declared.wants.UnaryGate.TheVariants as single
use Rattle.bristol_reader.specs.declared.wants.Placed.{Placed}
use Rattle.zk_model.specs.ArithFaults.{Place}
use Rattle.text_tokens.specs.Words.{Takes}
use Rattle.bristol_reader.specs.Words.{greatest}

-- the fault of the token at a place
abbrev pub next_fault : Want → Place → Option ReadFault
next_fault want place = first_lexeme_fault want place.left place.taken

-- what is wanted after some tokens
abbrev pub Wanting : Type 1
Wanting = List Lexeme → Want → Type 0

-- some tokens are right, and the one after them is not what is wanted there
pub record IsFaultBehind (Wants : Wanting) (before : Place) (fault : ReadFault) : Type 0 where
  pub part : List Lexeme
  pub behind : List Lexeme
  pub want : Want
  pub left : before.left ≡ part ++ behind
  pub wanted : Wants part want
  pub fault_is : first_lexeme_fault want behind (before.taken + length part) ≡ Some fault

-- a number as it is read
pub record IsPlaced (placed : Placed) (exact token : ℕ) : Type 0 where
  pub number_is : placed.number ≡ min exact greatest
  pub token_is : placed.token ≡ token

-- a number stands between two places, and this is how it is read
pub record TakesNumber (before after : Place) (placed : Placed) : Type 0 where
  pub exact : ℕ
  pub is : IsPlaced placed exact before.taken
  pub takes : Takes (number exact ∷ []) before after

-- how many inputs a gate has
abbrev pub inputs_of : Bool → ℕ
inputs_of is_pair = if is_pair then 2 else 1

-- its numbers of inputs and of outputs
abbrev pub numbers_of : Bool → List Lexeme
numbers_of is_pair = number (inputs_of is_pair) ∷ number 1 ∷ []

-- the gate with two inputs, or with one, that a word names
abbrev pub pair_of : Word → Option BinaryGate
pair_of (Name And) = Some pair.And
pair_of (Name Xor) = Some pair.Xor
pair_of other = None

abbrev pub single_of : Word → Option UnaryGate
single_of (Name Inv) = Some single.Inv
single_of (Name Eq) = Some single.Eq
single_of (Name Eqw) = Some single.Eqw
single_of other = None

-- the names of gates
abbrev pub pair_text : BinaryGate → List ℕ
pair_text pair.And = codes "AND"
pair_text pair.Xor = codes "XOR"

abbrev pub single_text : UnaryGate → List ℕ
single_text single.Inv = codes "INV"
single_text single.Eq = codes "EQ"
single_text single.Eqw = codes "EQW"
