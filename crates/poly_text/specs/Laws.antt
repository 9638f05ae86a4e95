-- What the definitions of texts promise.
use Rattle.std.specs.Prelude.{◌≡◌, ℕ, ◌↔◌, List, Ok}
use Rattle.poly_model.specs.Constraints.{Constraints}
use Rattle.poly_text.specs.Texts.{IsPolyText}
use Rattle.poly_text.specs.TextFaults.{judged}

-- a text is judged to say constraints exactly where it says them
abbrev pub TextsAreExact : Type 0
TextsAreExact = (text : List ℕ) (constraints : Constraints) → (judged text ≡ Ok constraints) ↔ IsPolyText constraints text
