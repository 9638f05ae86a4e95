-- What is read of a text, and why it is not.
use Rattle.std.specs.Prelude.{◌≡◌, ℕ, List, Err}
use Rattle.zk_model.specs.declared.ReadFault.{ReadFault}
use Rattle.zk_model.specs.Arithmetic.{Arith}
use Rattle.zk_model.specs.ArithTexts.{IsArithText}
use Rattle.zk_model.specs.ArithFaults.{judged}
use Rattle.arith_reader.specs.declared.fault.ReadError.{ReadError}
use Rattle.arith_reader.specs.declared.fault.ReadError.TheVariants.{Fault, NoMemory}

-- the text says this circuit, and no other, and it has no fault
pub record IsOnlyCircuit (text : List ℕ) (circuit : Arith) : Type 0 where
  pub says : IsArithText circuit text
  pub only : (other : Arith) → IsArithText other text → other ≡ circuit
  pub no_fault : (fault : ReadFault) → ¬ (judged text ≡ Err fault)

-- this is the text's first fault, and it says no circuit
pub record IsOnlyFault (text : List ℕ) (fault : ReadFault) : Type 0 where
  pub first : judged text ≡ Err fault
  pub no_circuit : (circuit : Arith) → ¬ IsArithText circuit text

abbrev pub ReadCause : List ℕ → ReadError → Type 0
ReadCause text (Fault fault) = IsOnlyFault text fault
ReadCause text NoMemory = Unit {0}

-- a fault is the first of the text
abbrev pub TextCause : List ℕ → ReadError → Type 0
TextCause text (Fault fault) = judged text ≡ Err fault
TextCause text NoMemory = Unit {0}
