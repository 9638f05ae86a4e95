-- Why files of arithmetic circuits and of elements can't be had, and what is not a cause where a shelf tells what is wanted.
use Rattle.std.proofs.Common.{◌≡◌, ◌⊎◌, ◌∙◌, ℕ, List, length, Option, None, Some, sym, ap, subst, inl, inr}
use Rattle.std.specs.Prelude.{◌≢◌, Result, Ok}
use Rattle.zk_model.specs.Arithmetic.{Arith}
use Rattle.zk_model.specs.ArithTexts.{IsArithText}
use Rattle.zk_model.specs.declared.ReadFault.{ReadFault}
use Rattle.zk_port.specs.Files.{Files}
use Rattle.arith_reader.specs.Laws.{TextsAreExact}
use Rattle.arith_reader.specs.Reads.{IsOnlyFault}
use Rattle.element_file.specs.Elements.{LacksElements, SaysElements}
use Rattle.element_file.specs.Laws.{ElementsAreExact}
use Rattle.element_file.specs.declared.fault.ElementsError.TheVariants.{Fault}
use Rattle.element_file.specs.declared.fault.ElementsFault.{ElementsFault}
use Rattle.element_file.specs.declared.fault.ElementsFault.TheVariants as element
use Rattle.claim_files.specs.ArithFiles.{ArithClaimStop, ArithStop, ElementsStop, ElementsTextStop, IsArithFile, IsElementsFile}
use Rattle.file_commands.specs.Effects.{ShelfChange, NameFailed}
use Rattle.file_commands.specs.Stops.{IsLoaded, LoadStop}
use Rattle.file_commands.specs.declared.refusal.Refusal.{Refusal}
use Rattle.file_commands.specs.declared.refusal.Refusal.TheVariants as stop
use Rattle.file_commands.proofs.Causes.{load_lacks, told_text}

-- ---- a circuit that can't be had

pub arith_of_load : (name : List ℕ) (shelf : ShelfChange) (why : Refusal) → LoadStop name shelf why → ArithStop name shelf why
arith_of_load name shelf (stop.BadText fault) cause = absurd cause
arith_of_load name shelf other cause = cause

pub arith_of_text : (name : List ℕ) (shelf : ShelfChange) (text : List ℕ) (why : Refusal) → IsLoaded shelf.old.told name text
    → (why ≡ stop.NoMemory) ⊎ ((fault : ReadFault) × IsOnlyFault text fault × (why ≡ stop.BadText fault)) → ArithStop name shelf why
arith_of_text name shelf text why loaded (inl e) = subst (ArithStop name shelf) (sym e) tt
arith_of_text name shelf text why loaded (inr unread) =
    subst (ArithStop name shelf) (sym unread.2) (record { text = text; loaded = loaded; says = unread.1 })

-- ---- elements that can't be had

pub elements_of_load : (name : List ℕ) (need : ℕ) (shelf : ShelfChange) (why : Refusal) → LoadStop name shelf why → ElementsStop name need shelf why
elements_of_load name need shelf (stop.BadElements fault) cause = absurd cause
elements_of_load name need shelf other cause = cause

pub elements_of_text : (name : List ℕ) (need : ℕ) (shelf : ShelfChange) (text : List ℕ) (why : Refusal) → IsLoaded shelf.old.told name text
    → ElementsTextStop need text why → ElementsStop name need shelf why
elements_of_text name need shelf text (stop.BadElements fault) loaded cause = record { text = text; loaded = loaded; says = cause }
elements_of_text name need shelf text stop.NoMemory loaded cause = tt
elements_of_text name need shelf text other loaded cause = absurd cause

-- ---- where a shelf tells, a name has one circuit, or one list of elements

pub told_arith : TextsAreExact → (told : Option Files) (name : List ℕ) (circuit other : Arith) → told ≢ None → IsArithFile told name circuit
    → IsArithFile told name other → other ≡ circuit
told_arith exact told name circuit other tells is_told file =
    let same = told_text told name is_told.text file.text tells is_told.loaded.stands file.loaded.stands in
    one circuit other (sym ((exact is_told.text other).1 (subst (IsArithText other) same file.says)) ∙ (exact is_told.text circuit).1 is_told.says)
  where
    one : (c d : Arith) → ◌≡◌ {A = Result Arith ReadFault} (Ok d) (Ok c) → d ≡ c
    one c d same = cc

pub told_elements : ElementsAreExact → (told : Option Files) (name elements others : List ℕ) → told ≢ None → IsElementsFile told name elements
    → IsElementsFile told name others → others ≡ elements
told_elements exact told name elements others tells is_told file =
    let same = told_text told name is_told.text file.text tells is_told.loaded.stands file.loaded.stands in
    (exact is_told.text elements is_told.says).only others (subst (λ text. SaysElements text others) same file.says)

-- ---- where what is wanted stands there, and no call failed, only memory can be wanting

pub arith_lacks : (name : List ℕ) (shelf : ShelfChange) (circuit : Arith) → shelf.old.told ≢ None → IsArithFile shelf.old.told name circuit
    → ¬ NameFailed name shelf → (why : Refusal) → ArithStop name shelf why → why ≡ stop.NoMemory
arith_lacks name shelf circuit tells file calm (stop.BadText fault) cause =
    let same = told_text shelf.old.told name file.text cause.text tells file.loaded.stands cause.loaded.stands in
    absurd (cause.says.no_circuit circuit (subst (IsArithText circuit) (sym same) file.says))
arith_lacks name shelf circuit tells file calm other cause = load_lacks name shelf file.text tells file.loaded calm other cause

-- a text that says so many elements has no fault
none_lacks : ElementsAreExact → (need : ℕ) (text elements : List ℕ) → SaysElements text elements → length elements ≡ need → (fault : ElementsFault)
    → LacksElements need text (Fault fault) → ⊥
none_lacks exact need text elements says enough (element.BadValue token) lacks =
    let none = (exact text elements says).none_bad in
    let impossible : None ≡ Some token = sym none ∙ lacks in cc
none_lacks exact need text elements says enough (element.Count needed got) lacks =
    let other = lacks.1 in
    other.differs (sym enough ∙ ap length (sym ((exact text elements says).only other.elements other.says)) ∙ sym other.count)

pub elements_lack : ElementsAreExact → (name : List ℕ) (need : ℕ) (shelf : ShelfChange) (elements : List ℕ) → shelf.old.told ≢ None
    → IsElementsFile shelf.old.told name elements → length elements ≡ need → ¬ NameFailed name shelf → (why : Refusal)
    → ElementsStop name need shelf why → why ≡ stop.NoMemory
elements_lack exact name need shelf elements tells file enough calm (stop.BadElements fault) cause =
    let same = told_text shelf.old.told name file.text cause.text tells file.loaded.stands cause.loaded.stands in
    absurd (none_lacks exact need file.text elements file.says enough fault (subst (λ text. LacksElements need text (Fault fault)) same cause.says))
elements_lack exact name need shelf elements tells file enough calm other cause =
    load_lacks name shelf file.text tells file.loaded calm other cause

-- nor a claim, where as many outputs are told as the circuit has
pub arith_claim_lacks : TextsAreExact → ElementsAreExact → (name outputs_name : List ℕ) (shelf : ShelfChange) (circuit : Arith) (outputs : List ℕ)
    → shelf.old.told ≢ None → IsArithFile shelf.old.told name circuit → IsElementsFile shelf.old.told outputs_name outputs
    → length outputs ≡ circuit.outputs → ¬ NameFailed name shelf → ¬ NameFailed outputs_name shelf → (why : Refusal)
    → ArithClaimStop name outputs_name shelf why → why ≡ stop.NoMemory
arith_claim_lacks texts exact name outputs_name shelf circuit outputs tells file outputs_file enough calm still why (inl cause) =
    arith_lacks name shelf circuit tells file calm why cause
arith_claim_lacks texts exact name outputs_name shelf circuit outputs tells file outputs_file enough calm still why (inr cause) =
    let same = told_arith texts shelf.old.told name circuit cause.circuit tells file cause.file in
    elements_lack exact outputs_name cause.circuit.outputs shelf outputs tells outputs_file (enough ∙ ap (λ c. c.outputs) (sym same)) still why cause.is
