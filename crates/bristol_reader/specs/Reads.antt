-- What is read of a text, and why it is not.
use Rattle.std.specs.Prelude.{◌≡◌, ℕ, List}
use Rattle.zk_model.specs.Circuit.{Circuit}
use Rattle.zk_model.specs.Bristol.{IsText}
use Rattle.bristol_reader.specs.TextFaults.{IsFirstFault}
use Rattle.zk_model.specs.declared.ReadFault.{ReadFault}
use Rattle.bristol_reader.specs.declared.fault.ReadError.{ReadError}
use Rattle.bristol_reader.specs.declared.fault.ReadError.TheVariants.{Fault, NoMemory}

-- the text says this circuit, and no other, and it has no fault
pub record IsOnlyCircuit (text : List ℕ) (circuit : Circuit) : Type 0 where
  pub says : IsText circuit text
  pub only : (other : Circuit) → IsText other text → other ≡ circuit
  pub no_fault : (fault : ReadFault) → ¬ IsFirstFault text fault

-- this is the text's first fault, and no other is, and it says no circuit
pub record IsOnlyFault (text : List ℕ) (fault : ReadFault) : Type 0 where
  pub first : IsFirstFault text fault
  pub only : (other : ReadFault) → IsFirstFault text other → other ≡ fault
  pub no_circuit : (circuit : Circuit) → ¬ IsText circuit text

-- a fault is the first of the text
abbrev pub TextCause : List ℕ → ReadError → Type 0
TextCause text (Fault fault) = IsFirstFault text fault
TextCause text NoMemory = Unit {0}

-- and the only one that is
abbrev pub ReadCause : List ℕ → ReadError → Type 0
ReadCause text (Fault fault) = IsOnlyFault text fault
ReadCause text NoMemory = Unit {0}
