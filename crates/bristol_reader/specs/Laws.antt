-- What the definitions of texts promise.
use Rattle.std.specs.Prelude.{◌≡◌, ℕ, List}
use Rattle.zk_model.specs.Bristol.{IsText}
use Rattle.zk_model.specs.Circuit.{Circuit}
use Rattle.bristol_reader.specs.TextFaults.{IsFirstFault}
use Rattle.zk_model.specs.declared.ReadFault.{ReadFault}

-- a text says one circuit at most
abbrev pub OneCircuit : Type 0
OneCircuit = (text : List ℕ) (c d : Circuit) → IsText c text → IsText d text → c ≡ d

-- it has one first fault at most
abbrev pub OneFirstFault : Type 0
OneFirstFault = (text : List ℕ) (f g : ReadFault) → IsFirstFault text f → IsFirstFault text g → f ≡ g

-- and not both
abbrev pub FaultOrCircuit : Type 0
FaultOrCircuit = (text : List ℕ) (f : ReadFault) (c : Circuit) → IsFirstFault text f → IsText c text → ⊥
