-- Files of polynomial constraints and of values for them, and why they can't be had.
use Rattle.std.specs.Prelude.{◌≡◌, ◌⊎◌, ℕ, List, length, Option}
use Rattle.sha2.specs.Sha256.{sha256}
use Rattle.zk_port.specs.Files.{Files}
use Rattle.poly_model.specs.Constraints.{AreMet, Constraints}
use Rattle.poly_text.specs.Reads.{IsOnlyFault}
use Rattle.poly_text.specs.Texts.{IsPolyText}
use Rattle.poly_text.specs.Unmet.{IsFirstUnmet}
use Rattle.claim_files.specs.ArithFiles.{ElementsStop, IsElementsFile}
use Rattle.file_commands.specs.Effects.{ShelfChange}
use Rattle.file_commands.specs.Stops.{HasText, LoadStop}
use Rattle.file_commands.specs.declared.refusal.Refusal.{Refusal}
use Rattle.file_commands.specs.declared.refusal.Refusal.TheVariants as stop

-- ---- constraints

-- where a shelf tells, the text under the name says these constraints
abbrev pub IsPolyFile : Option Files → List ℕ → Constraints → Type 0
IsPolyFile told name constraints = HasText told name (IsPolyText constraints)

-- and this is SHA-256 of the text
abbrev pub HasPoly : Option Files → List ℕ → Constraints → List ℕ → Type 0
HasPoly told name constraints digest = HasText told name (λ text. IsPolyText constraints text × (digest ≡ sha256 text))

-- why the constraints under this name can't be had: the text says none, and has this first fault; or it can't be loaded
abbrev pub PolyStop : List ℕ → ShelfChange → Refusal → Type 0
PolyStop name shelf (stop.BadConstraints fault) = HasText shelf.old.told name (λ text. IsOnlyFault text fault)
PolyStop name shelf other = LoadStop name shelf other

-- ---- values

-- where a shelf tells, the text under the name says a value for each variable
pub record AreValuesFor (told : Option Files) (name : List ℕ) (constraints : Constraints) (values : List ℕ) : Type 0 where
  pub file : IsElementsFile told name values
  pub counted : length values ≡ constraints.variables

-- where a shelf tells, the text under the first name says these constraints and has this digest, and that under the second values that meet
-- all of them
pub record IsPolyWitness (told : Option Files) (text values_name : List ℕ) (constraints : Constraints) (digest values : List ℕ) : Type 0 where
  pub constraints_file : HasPoly told text constraints digest
  pub values_are : AreValuesFor told values_name constraints values
  pub met : AreMet constraints values

-- why values prove nothing: this constraint is the first that they do not meet
abbrev pub IsUnmetIn : Constraints → List ℕ → Refusal → Type 0
IsUnmetIn constraints values (stop.Unsatisfied constraint) = IsFirstUnmet constraints values constraint
IsUnmetIn constraints values other = ⊥

-- where a shelf tells, the text under the name says constraints of which this holds
pub record HasConstraints (told : Option Files) (name : List ℕ) (Holds : Constraints → Type 0) : Type 0 where
  pub constraints : Constraints
  pub file : IsPolyFile told name constraints
  pub is : Holds constraints

-- where a shelf tells, the text under the name says values, one for each variable, of which this holds
pub record HasValues (told : Option Files) (name : List ℕ) (constraints : Constraints) (Holds : List ℕ → Type 0) : Type 0 where
  pub values : List ℕ
  pub file : AreValuesFor told name constraints values
  pub is : Holds values

-- why there are no constraints with values that meet them, the first of these: the constraints can't be had; nor values, one for each
-- variable; or these do not meet a constraint
abbrev pub PolyWitnessStop : List ℕ → List ℕ → ShelfChange → Refusal → Type 0
PolyWitnessStop text values shelf why = PolyStop text shelf why
    ⊎ HasConstraints shelf.old.told text (λ constraints. ElementsStop values constraints.variables shelf why
    ⊎ HasValues shelf.old.told values constraints (λ x. IsUnmetIn constraints x why))
