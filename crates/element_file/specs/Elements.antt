-- A list of elements of the field in a file, and its printed form.
use Rattle.std.specs.Prelude.{◌≡◌, ◌≢◌, ℕ, length, ◌++◌, nat_lt, if◌then◌else◌, is_none, Option, None, Some, List, [], ◌∷◌, codes, flat_map, map, position}
use Rattle.std.specs.Fmt.{decimal}
use Rattle.zk_model.specs.Bristol.{Lexeme, number, name, lexemes}
use Rattle.zk_model.specs.Field.{prime}
use Rattle.element_file.specs.declared.fault.ElementsError.{ElementsError}
use Rattle.element_file.specs.declared.fault.ElementsError.TheVariants.{Fault, NoMemory}
use Rattle.element_file.specs.declared.fault.ElementsFault.TheVariants.{BadValue, Count}

-- ---- what a text says

-- the element that a token is, if it is one: a number below the prime
abbrev pub element_in : Lexeme → Option ℕ
element_in (number n) = if nat_lt n prime then Some n else None
element_in (name text) = None

-- of each token of a text
abbrev pub elements_in : List ℕ → List (Option ℕ)
elements_in text = map element_in (lexemes text)

-- each token is one of these elements, in order
abbrev pub SaysElements : List ℕ → List ℕ → Type 0
SaysElements text elements = elements_in text ≡ map Some elements

-- the first token that is no element, counted from 0, if there is one
abbrev pub first_bad : List ℕ → Option ℕ
first_bad text = position is_none (elements_in text)

-- why no elements are read: this token is the first that is none, or memory was missing
abbrev pub SaysNoElements : List ℕ → ElementsError → Type 0
SaysNoElements text (Fault (BadValue token)) = first_bad text ≡ Some token
SaysNoElements text (Fault (Count need got)) = ⊥
SaysNoElements text NoMemory = Unit

-- a text says elements, but other than so many
pub record SaysOtherCount (text : List ℕ) (need got : ℕ) : Type 0 where
  pub elements : List ℕ
  pub says : SaysElements text elements
  pub count : got ≡ length elements
  pub differs : need ≢ got

-- why not so many elements are read: this token is the first that is none; or there are others than so many; or memory was missing
abbrev pub LacksElements : ℕ → List ℕ → ElementsError → Type 0
LacksElements need text (Fault (Count needed got)) = (needed ≡ need) × SaysOtherCount text need got
LacksElements need text error = SaysNoElements text error

-- ---- what is printed

-- each behind a space
abbrev pub spaced : List ℕ → List ℕ
spaced elements = flat_map (λ element. codes " " ++ decimal element) elements

-- in decimal with one space between, or `none`
abbrev pub elements_word : List ℕ → List ℕ
elements_word [] = codes "none"
elements_word (element ∷ elements) = decimal element ++ spaced elements
