-- What is read of a text, and why it is not.
use Rattle.std.specs.Prelude.{◌≡◌, ℕ, List, Err}
use Rattle.poly_model.specs.Constraints.{Constraints}
use Rattle.poly_text.specs.Texts.{IsPolyText}
use Rattle.poly_text.specs.TextFaults.{judged}
use Rattle.poly_text.specs.declared.fault.PolyFault.{PolyFault}
use Rattle.poly_text.specs.declared.fault.ReadError.{ReadError}
use Rattle.poly_text.specs.declared.fault.ReadError.TheVariants.{Fault, NoMemory}

-- the text says these constraints, and no others, and it has no fault
pub record AreOnlyConstraints (text : List ℕ) (constraints : Constraints) : Type 0 where
  pub says : IsPolyText constraints text
  pub only : (others : Constraints) → IsPolyText others text → others ≡ constraints
  pub no_fault : (fault : PolyFault) → ¬ (judged text ≡ Err fault)

-- this is the text's first fault, and it says no constraints
pub record IsOnlyFault (text : List ℕ) (fault : PolyFault) : Type 0 where
  pub first : judged text ≡ Err fault
  pub no_constraints : (constraints : Constraints) → ¬ IsPolyText constraints text

abbrev pub ReadCause : List ℕ → ReadError → Type 0
ReadCause text (Fault fault) = IsOnlyFault text fault
ReadCause text NoMemory = Unit {0}
