-- One token of a file of elements.
use Rattle.std.specs.Prelude.{◌≡◌, ℕ, ◌+◌, Option, None, Some, List, [], ◌∷◌}
use Rattle.zk_model.specs.ArithFaults.{Place}
use Rattle.zk_model.specs.Bristol.{Lexeme}
use Rattle.element_file.specs.Elements.{element_in}
use Rattle.element_file.specs.declared.fault.ElementsFault.{ElementsFault}
use Rattle.element_file.specs.declared.fault.ElementsFault.TheVariants.{BadValue}

-- a token that stands at a place, behind which is another place
pub record Stands (before after : Place) (element : Option ℕ) : Type 0 where
  pub lexeme : Lexeme
  pub left : before.left ≡ lexeme ∷ after.left
  pub taken : after.taken ≡ before.taken + 1
  pub element_is : element_in lexeme ≡ element

-- the next token is this element; or none is left
abbrev pub TakesElement : Place → Place → Option ℕ → Type 0
TakesElement before after None = before.left ≡ []
TakesElement before after (Some element) = Stands before after (Some element)

-- the next token is no element
pub record IsBadValue (before : Place) (fault : ElementsFault) : Type 0 where
  pub lexeme : Lexeme
  pub left : List Lexeme
  pub stands : before.left ≡ lexeme ∷ left
  pub none : element_in lexeme ≡ None
  pub fault_is : fault ≡ BadValue before.taken
