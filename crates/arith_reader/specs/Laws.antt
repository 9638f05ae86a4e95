-- What the definitions of texts promise.
use Rattle.std.specs.Prelude.{◌≡◌, ℕ, ◌↔◌, List, Ok}
use Rattle.zk_model.specs.Arithmetic.{Arith}
use Rattle.zk_model.specs.ArithTexts.{IsArithText}
use Rattle.zk_model.specs.ArithFaults.{judged}

-- a text is judged to say a circuit exactly where it says it
abbrev pub TextsAreExact : Type 0
TextsAreExact = (text : List ℕ) (circuit : Arith) → (judged text ≡ Ok circuit) ↔ IsArithText circuit text
