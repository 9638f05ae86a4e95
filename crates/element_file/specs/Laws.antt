-- What the definitions promise.
use Rattle.std.specs.Prelude.{◌≡◌, ℕ, List, None, All}
use Rattle.zk_model.specs.Field.{IsElement}
use Rattle.element_file.specs.Elements.{SaysElements, first_bad}

-- a text that says these elements says no others, all are below the prime, and no token is bad
pub record AreExact (text elements : List ℕ) : Type 0 where
  pub only : (others : List ℕ) → SaysElements text others → others ≡ elements
  pub elements_are : All IsElement elements
  pub none_bad : first_bad text ≡ None

abbrev pub ElementsAreExact : Type 0
ElementsAreExact = (text elements : List ℕ) → SaysElements text elements → AreExact text elements
