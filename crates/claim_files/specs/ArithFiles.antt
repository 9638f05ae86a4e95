-- Files of arithmetic circuits and of elements, claims about outputs, and why they can't be had.
use Rattle.std.specs.Prelude.{◌≡◌, ◌⊎◌, ℕ, List, length, Option}
use Rattle.sha2.specs.Sha256.{sha256}
use Rattle.zk_model.specs.Arithmetic.{Arith}
use Rattle.zk_model.specs.ArithTexts.{IsArithText}
use Rattle.zk_model.specs.Statement.{Statement, arith_statement}
use Rattle.zk_port.specs.Files.{Files}
use Rattle.arith_reader.specs.Reads.{IsOnlyFault}
use Rattle.element_file.specs.Elements.{LacksElements, SaysElements}
use Rattle.element_file.specs.declared.fault.ElementsError.TheVariants.{Fault}
use Rattle.file_commands.specs.Effects.{ShelfChange}
use Rattle.file_commands.specs.Stops.{HasText, IsLoaded, LoadStop}
use Rattle.file_commands.specs.declared.refusal.Refusal.{Refusal}
use Rattle.file_commands.specs.declared.refusal.Refusal.TheVariants as stop

-- ---- arithmetic circuits

-- where a shelf tells, the text under the name says this circuit
abbrev pub IsArithFile : Option Files → List ℕ → Arith → Type 0
IsArithFile told name circuit = HasText told name (IsArithText circuit)

-- and this is SHA-256 of the text
abbrev pub HasArithText : Option Files → List ℕ → Arith → List ℕ → Type 0
HasArithText told name circuit digest = HasText told name (λ text. IsArithText circuit text × (digest ≡ sha256 text))

-- where a shelf tells, the text under the name says a circuit of which this holds
pub record HasArith (told : Option Files) (name : List ℕ) (Holds : Arith → Type 0) : Type 0 where
  pub circuit : Arith
  pub file : IsArithFile told name circuit
  pub is : Holds circuit

-- why the circuit under this name can't be had: its text says none, and has this first fault; or it can't be loaded
abbrev pub ArithStop : List ℕ → ShelfChange → Refusal → Type 0
ArithStop name shelf (stop.BadText fault) = HasText shelf.old.told name (λ text. IsOnlyFault text fault)
ArithStop name shelf other = LoadStop name shelf other

-- ---- elements

-- where a shelf tells, the text under the name says these elements
abbrev pub IsElementsFile : Option Files → List ℕ → List ℕ → Type 0
IsElementsFile told name elements = HasText told name (λ text. SaysElements text elements)

-- why a text does not give so many: its first token that is no element, or another number of them; or memory was missing
abbrev pub ElementsTextStop : ℕ → List ℕ → Refusal → Type 0
ElementsTextStop need text (stop.BadElements fault) = LacksElements need text (Fault fault)
ElementsTextStop need text stop.NoMemory = Unit {0}
ElementsTextStop need text other = ⊥

-- why the file of this name does not: its text does not, or it can't be loaded
abbrev pub ElementsStop : List ℕ → ℕ → ShelfChange → Refusal → Type 0
ElementsStop name need shelf (stop.BadElements fault) = HasText shelf.old.told name (λ text. LacksElements need text (Fault fault))
ElementsStop name need shelf other = LoadStop name shelf other

-- ---- claims

-- where a shelf tells, the text under the first name says this circuit, that under the second these elements, as many as its outputs; and
-- this is the statement that some elements make the circuit give them and meet its assertions, with the digest of the text
pub record IsArithClaim
    (told : Option Files)
    (name outputs_name : List ℕ)
    (circuit : Arith)
    (outputs : List ℕ)
    (statement : Statement) : Type 0 where
  pub text : List ℕ
  pub loaded : IsLoaded told name text
  pub says : IsArithText circuit text
  pub outputs_file : IsElementsFile told outputs_name outputs
  pub count : length outputs ≡ circuit.outputs
  pub statement_is : statement ≡ arith_statement circuit (sha256 text) outputs

-- why there is no claim: the circuit can't be had; or the file of the outputs does not give as many as it has
abbrev pub ArithClaimStop : List ℕ → List ℕ → ShelfChange → Refusal → Type 0
ArithClaimStop name outputs shelf why =
    ArithStop name shelf why ⊎ HasArith shelf.old.told name (λ circuit. ElementsStop outputs circuit.outputs shelf why)

-- one of two names
abbrev pub IsEither : List ℕ → List ℕ → List ℕ → Type 0
IsEither first second name = (name ≡ first) ⊎ (name ≡ second)
