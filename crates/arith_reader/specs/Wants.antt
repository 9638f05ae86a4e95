-- What is read of the next token.
use Rattle.std.specs.Prelude.{◌≡◌, ℕ, ◌<◌, Bool, false, Ok, Err, List, [], ◌∷◌, length, min, slice_index_or}
use Rattle.zk_model.specs.Bristol.{Lexeme, name, number}
use Rattle.zk_model.specs.declared.ReadFault.{ReadFault}
use Rattle.zk_model.specs.declared.ReadFault.TheVariants.{BadNumber, ExtraText, ShortText}
use Rattle.text_tokens.specs.Words.{greatest, Takes}
use Rattle.zk_model.specs.Arithmetic.{Arith, is_set}
use Rattle.zk_model.specs.ArithFaults.{Judge, Place, next, read_of, set_of}
use Rattle.arith_reader.specs.declared.wants.Placed.{Placed}

-- the next token gives this, up to a place
abbrev pub Gives : {A : Type 0} → Judge A → Place → Place → A → Type 0
Gives judge before after item = next judge before ≡ Ok (record { item = item; place = after })

-- the next token has this fault
abbrev pub Refuses : {A : Type 0} → Judge A → Place → ReadFault → Type 0
Refuses judge before fault = next judge before ≡ Err fault

-- a number stands there, which is read so
pub record TakesPlaced (before after : Place) (placed : Placed) : Type 0 where
  pub exact : ℕ
  pub number_is : placed.number ≡ min exact greatest
  pub token_is : placed.token ≡ before.taken
  pub takes : Takes (number exact ∷ []) before after

-- no number stands there, and the fault
pub data IsNoNumber (before : Place) (fault : ReadFault) : Type 0 where
  at_end : before.left ≡ [] → fault ≡ ShortText before.taken → IsNoNumber before fault
  a_name : (text : List ℕ) (left : List Lexeme) → before.left ≡ name text ∷ left → fault ≡ BadNumber before.taken
      → IsNoNumber before fault

-- a token stands there where none is to be
pub record IsExtra (before : Place) (fault : ReadFault) : Type 0 where
  pub lexeme : Lexeme
  pub left : List Lexeme
  pub stands : before.left ≡ lexeme ∷ left
  pub fault_is : fault ≡ ExtraText before.taken

-- ---- wires, where flags say which are set

-- by its flag, a wire is set
abbrev pub flag_of : List Bool → ℕ → Bool
flag_of flags wire = slice_index_or flags wire false

-- the flags say which wires of a circuit so far are set
pub record AreFlags (flags : List Bool) (begun : Arith) : Type 0 where
  pub whole : length flags ≡ begun.wires
  pub same : (wire : ℕ) → wire < begun.wires → flag_of flags wire ≡ is_set begun.inputs begun.gates wire

-- this holds of each circuit so far that has these flags
abbrev pub OfBegun : List Bool → (Arith → Type 0) → Type 0
OfBegun flags P = (begun : Arith) → AreFlags flags begun → P begun

abbrev pub GivesRead : List Bool → Place → Place → ℕ → Type 0
GivesRead flags before after wire = OfBegun flags (λ begun. Gives (read_of begun) before after wire)

abbrev pub RefusesRead : List Bool → Place → ReadFault → Type 0
RefusesRead flags before fault = OfBegun flags (λ begun. Refuses (read_of begun) before fault)

abbrev pub GivesSet : List Bool → Place → Place → ℕ → Type 0
GivesSet flags before after wire = OfBegun flags (λ begun. Gives (set_of begun) before after wire)

abbrev pub RefusesSet : List Bool → Place → ReadFault → Type 0
RefusesSet flags before fault = OfBegun flags (λ begun. Refuses (set_of begun) before fault)
