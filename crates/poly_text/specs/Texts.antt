-- The text of constraints: the numbers of values and of constraints; then each constraint, its number of terms first; then each
-- term, its coefficient, its number of factors, and these. Tokens are as those of circuits' texts.
use Rattle.std.specs.Prelude.{◌≡◌, ℕ, ◌≤◌, List, [], ◌∷◌, flat_map, length, All}
use Rattle.zk_model.specs.Bristol.{Lexeme, number, lexemes}
use Rattle.poly_model.specs.Constraints.{Term, Constraints, AreConstraints}
use Rattle.poly_model.specs.declared.limits.TheConstants.{MAX_CONSTRAINTS, MAX_FACTORS, MAX_TERMS, MAX_VARIABLES}

-- how many items, and the items in order
abbrev pub list_lexemes : {A : Type 0} → (A → List Lexeme) → List A → List Lexeme
list_lexemes spelled items = number (length items) ∷ flat_map spelled items

-- a number alone, as that of a factor
abbrev pub number_lexemes : ℕ → List Lexeme
number_lexemes v = number v ∷ []

abbrev pub term_lexemes : Term → List Lexeme
term_lexemes term = number term.coefficient ∷ list_lexemes number_lexemes term.factors

abbrev pub polynomial_lexemes : List Term → List Lexeme
polynomial_lexemes terms = list_lexemes term_lexemes terms

abbrev pub constraints_lexemes : Constraints → List Lexeme
constraints_lexemes constraints =
    number constraints.variables ∷ list_lexemes polynomial_lexemes constraints.polynomials

-- at most 65,536 values and constraints, 4,096 terms of each, and 8 factors of a term
pub record AreWithinLimits (constraints : Constraints) : Type 0 where
  pub values : constraints.variables ≤ MAX_VARIABLES
  pub count : length constraints.polynomials ≤ MAX_CONSTRAINTS
  pub terms : All (λ terms. length terms ≤ MAX_TERMS) constraints.polynomials
  pub factors : All (All (λ term. length term.factors ≤ MAX_FACTORS)) constraints.polynomials

-- the text says these constraints, which are within the limits; coefficients are elements, and factors values that there are
pub record IsPolyText (constraints : Constraints) (text : List ℕ) : Type 0 where
  pub says : lexemes text ≡ constraints_lexemes constraints
  pub limits : AreWithinLimits constraints
  pub formed : AreConstraints constraints
