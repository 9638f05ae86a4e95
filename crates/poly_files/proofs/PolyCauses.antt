-- Why files of constraints and of values can't be had, and what is not a cause where a shelf tells what is wanted.
use Rattle.std.proofs.Common.{◌≡◌, ◌⊎◌, ◌∙◌, ℕ, List, length, Option, None, Some, sym, ap, subst, inl, inr}
use Rattle.std.specs.Prelude.{◌≢◌, Result, Ok}
use Rattle.zk_port.specs.Files.{Files}
use Rattle.poly_model.specs.Constraints.{AreMet, Constraints}
use Rattle.poly_text.specs.Laws.{TextsAreExact}
use Rattle.poly_text.specs.Reads.{IsOnlyFault}
use Rattle.poly_text.specs.Texts.{IsPolyText}
use Rattle.poly_text.specs.declared.fault.PolyFault.{PolyFault}
use Rattle.poly_files.specs.PolyFiles.{IsPolyFile, PolyStop}
use Rattle.file_commands.specs.Effects.{ShelfChange, NameFailed}
use Rattle.file_commands.specs.Stops.{IsLoaded, LoadStop}
use Rattle.file_commands.specs.declared.refusal.Refusal.{Refusal}
use Rattle.file_commands.specs.declared.refusal.Refusal.TheVariants as stop
use Rattle.file_commands.proofs.Causes.{load_lacks, told_text}

pub poly_of_load : (name : List ℕ) (shelf : ShelfChange) (why : Refusal) → LoadStop name shelf why → PolyStop name shelf why
poly_of_load name shelf (stop.BadConstraints fault) cause = absurd cause
poly_of_load name shelf other cause = cause

pub poly_of_text : (name : List ℕ) (shelf : ShelfChange) (text : List ℕ) (why : Refusal) → IsLoaded shelf.old.told name text
    → (why ≡ stop.NoMemory) ⊎ ((fault : PolyFault) × IsOnlyFault text fault × (why ≡ stop.BadConstraints fault)) → PolyStop name shelf why
poly_of_text name shelf text why loaded (inl e) = subst (PolyStop name shelf) (sym e) tt
poly_of_text name shelf text why loaded (inr unread) =
    subst (PolyStop name shelf) (sym unread.2) (record { text = text; loaded = loaded; says = unread.1 })

-- where a shelf tells, a name has one list of constraints
pub told_poly : TextsAreExact → (told : Option Files) (name : List ℕ) (constraints other : Constraints) → told ≢ None
    → IsPolyFile told name constraints → IsPolyFile told name other → other ≡ constraints
told_poly exact told name constraints other tells is_told file =
    let same = told_text told name is_told.text file.text tells is_told.loaded.stands file.loaded.stands in
    one constraints other (sym ((exact is_told.text other).1 (subst (IsPolyText other) same file.says)) ∙ (exact is_told.text constraints).1 is_told.says)
  where
    one : (c d : Constraints) → ◌≡◌ {A = Result Constraints PolyFault} (Ok d) (Ok c) → d ≡ c
    one c d same = cc

-- where constraints stand there, and no call failed, only memory can be wanting
pub poly_lacks : (name : List ℕ) (shelf : ShelfChange) (constraints : Constraints) → shelf.old.told ≢ None
    → IsPolyFile shelf.old.told name constraints → ¬ NameFailed name shelf → (why : Refusal) → PolyStop name shelf why → why ≡ stop.NoMemory
poly_lacks name shelf constraints tells file calm (stop.BadConstraints fault) cause =
    let same = told_text shelf.old.told name file.text cause.text tells file.loaded.stands cause.loaded.stands in
    absurd (cause.says.no_constraints constraints (subst (IsPolyText constraints) (sym same) file.says))
poly_lacks name shelf constraints tells file calm other cause = load_lacks name shelf file.text tells file.loaded calm other cause
