-- What is read where an item is wanted.
use Rattle.std.specs.Prelude.{◌≡◌, ℕ, Ok, Err, List, [], ◌∷◌, min}
use Rattle.zk_model.specs.ArithFaults.{Place}
use Rattle.zk_model.specs.Bristol.{Lexeme, name, number}
use Rattle.text_tokens.specs.Words.{greatest, Takes}
use Rattle.poly_text.specs.TextFaults.{Reading, judged}
use Rattle.poly_text.specs.declared.fault.PolyFault.{PolyFault}
use Rattle.poly_text.specs.declared.fault.PolyFault.TheVariants.{BadNumber, ExtraText, ShortText}
use Rattle.poly_text.specs.declared.fault.ReadError.{ReadError}
use Rattle.poly_text.specs.declared.fault.ReadError.TheVariants.{Fault, NoMemory}
use Rattle.poly_text.specs.declared.wants.Placed.{Placed}

-- a number stands there, which is read so
pub record TakesPlaced (before after : Place) (placed : Placed) : Type 0 where
  pub exact : ℕ
  pub number_is : placed.number ≡ min exact greatest
  pub token_is : placed.token ≡ before.taken
  pub takes : Takes (number exact ∷ []) before after

-- no number stands there, and the fault
pub data IsNoNumber (before : Place) (fault : PolyFault) : Type 0 where
  at_end : before.left ≡ [] → fault ≡ ShortText before.taken → IsNoNumber before fault
  a_name : (text : List ℕ) (left : List Lexeme) → before.left ≡ name text ∷ left → fault ≡ BadNumber before.taken
      → IsNoNumber before fault

-- a token stands there where none is to be
pub record IsExtra (before : Place) (fault : PolyFault) : Type 0 where
  pub lexeme : Lexeme
  pub left : List Lexeme
  pub stands : before.left ≡ lexeme ∷ left
  pub fault_is : fault ≡ ExtraText before.taken

-- this item stands there, up to a place
abbrev pub Gives : {A : Type 0} → Reading A → Place → Place → A → Type 0
Gives item_at before after item = item_at before ≡ Ok (record { item = item; place = after })

-- this fault is the first there
abbrev pub Refuses : {A : Type 0} → Reading A → Place → PolyFault → Type 0
Refuses item_at before fault = item_at before ≡ Err fault

-- and so where memory may be missing
abbrev pub Lacks : {A : Type 0} → Reading A → Place → ReadError → Type 0
Lacks item_at before (Fault fault) = Refuses item_at before fault
Lacks item_at before NoMemory = Unit {0}

-- a fault is the first of the text
abbrev pub TextCause : List ℕ → ReadError → Type 0
TextCause text (Fault fault) = judged text ≡ Err fault
TextCause text NoMemory = Unit {0}
