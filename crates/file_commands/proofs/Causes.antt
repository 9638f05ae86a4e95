-- What causes a stop, and what does not where a shelf tells what is wanted.
use Rattle.std.proofs.Common.{◌≡◌, ◌⊎◌, ◌<◌, ◌≤◌, ◌∙◌, ℕ, Bool, List, length, Option, Some, None, IsSomeAnd, refl, sym, ap, subst, inl, inr, arith}
use Rattle.std.specs.Prelude.{◌≢◌}
use Rattle.zk_model.specs.Bristol.{IsText}
use Rattle.zk_model.specs.Circuit.{Circuit}
use Rattle.zk_model.specs.declared.ReadFault.{ReadFault}
use Rattle.zk_model.specs.declared.Side.{Side}
use Rattle.zk_model.specs.declared.limits.TheConstants.{FILE_LIMIT}
use Rattle.zk_port.specs.Counts.{Rose}
use Rattle.zk_port.specs.Files.{Files, StandsAs, StandsLonger}
use Rattle.bristol_reader.specs.Laws.{OneCircuit}
use Rattle.bristol_reader.specs.Reads.{IsOnlyFault}
use Rattle.dealer_files.specs.Faults.{IsDealtFile, IsFirstFileFault}
use Rattle.dealer_files.specs.declared.fault.FileFault.{FileFault}
use Rattle.dealer_files.specs.declared.fault.FileFault.TheVariants as file
use Rattle.lease_journal.specs.declared.fault.StartFault.{StartFault}
use Rattle.lease_journal.specs.declared.fault.StartFault.TheVariants as start
use Rattle.file_commands.specs.Effects.{ShelfChange, NameFailed}
use Rattle.file_commands.specs.Journals.{DiskChange, JournalStop}
use Rattle.file_commands.specs.Stops.{IsLoaded, IsCircuitFile, HasCircuit, HasText, LoadStop, CircuitStop, ClaimStop, FileStop, stop_status}
use Rattle.file_commands.specs.declared.refusal.Refusal.{Refusal}
use Rattle.file_commands.specs.declared.refusal.Refusal.TheVariants as stop

-- ---- a circuit that can't be had

pub circuit_of_load : (name : List ℕ) (shelf : ShelfChange) (why : Refusal) → LoadStop name shelf why → CircuitStop name shelf why
circuit_of_load name shelf (stop.BadText fault) cause = absurd cause
circuit_of_load name shelf other cause = cause

pub circuit_of_text : (name : List ℕ) (shelf : ShelfChange) (text : List ℕ) (why : Refusal) → IsLoaded shelf.old.told name text
    → (why ≡ stop.NoMemory) ⊎ ((fault : ReadFault) × IsOnlyFault text fault × (why ≡ stop.BadText fault))
    → CircuitStop name shelf why
circuit_of_text name shelf text why loaded (inl e) = subst (CircuitStop name shelf) (sym e) tt
circuit_of_text name shelf text why loaded (inr unread) =
    subst (CircuitStop name shelf) (sym unread.2) (record { text = text; loaded = loaded; says = unread.1 })

pub claim_of_circuit : (name : List ℕ) (public outputs : List Bool) (shelf : ShelfChange) (why : Refusal) → CircuitStop name shelf why
    → ClaimStop name public outputs shelf why
claim_of_circuit name public outputs shelf (stop.ManyPublic inputs got) cause = absurd cause
claim_of_circuit name public outputs shelf (stop.WrongOutputs need got) cause = absurd cause
claim_of_circuit name public outputs shelf other cause = cause

-- a dealt file that can't be had
pub file_of_load : (side : Side) (name : List ℕ) (shelf : ShelfChange) (why : Refusal) → LoadStop name shelf why → FileStop side name shelf why
file_of_load side name shelf (stop.BadFile fault) cause = absurd cause
file_of_load side name shelf other cause = cause

-- nor one whose bytes are none
pub file_of_bytes : (side : Side) (name : List ℕ) (shelf : ShelfChange) (text read : List ℕ) (fault : FileFault)
    → IsLoaded shelf.old.told name text → read ≡ text → IsFirstFileFault side read fault → FileStop side name shelf (stop.BadFile fault)
file_of_bytes side name shelf text read fault loaded same first =
    record { text = text; loaded = loaded; says = subst (λ (bytes : List ℕ). IsFirstFileFault side bytes fault) same first }

-- ---- where a shelf tells, nothing else stands under a name than what is told

pub told_text : (told : Option Files) (name : List ℕ) (some other : List ℕ) → told ≢ None → StandsAs told name some
    → StandsAs told name other → other ≡ some
told_text None name some other tells is_told stands = absurd (tells refl)
told_text (Some files) name some other tells is_told stands = cc

pub told_circuit : OneCircuit → (told : Option Files) (name : List ℕ) (circuit other : Circuit) → told ≢ None
    → IsCircuitFile told name circuit → IsCircuitFile told name other → other ≡ circuit
told_circuit one told name circuit other tells is_told file =
    let same = told_text told name is_told.text file.text tells is_told.loaded.stands file.loaded.stands in
    one is_told.text other circuit (subst (IsText other) same file.says) is_told.says

no_longer : (told : Option Files) (name text : List ℕ) → told ≢ None → IsLoaded told name text → StandsLonger told name FILE_LIMIT → ⊥
no_longer None name text tells loaded longer = tells refl
no_longer (Some files) name text tells loaded longer =
    let lt : FILE_LIMIT < length text =
    subst (λ o. IsSomeAnd o (λ bytes. FILE_LIMIT < length bytes)) loaded.stands longer in
    let fits = loaded.fits in omega (arith, lt, fits)

-- ---- where what is wanted stands there, and no call failed, only memory can be wanting

pub load_lacks : (name : List ℕ) (shelf : ShelfChange) (text : List ℕ) → shelf.old.told ≢ None
    → IsLoaded shelf.old.told name text → ¬ NameFailed name shelf → (why : Refusal) → LoadStop name shelf why → why ≡ stop.NoMemory
load_lacks name shelf text tells loaded calm stop.ShelfFailed cause = absurd (calm cause)
load_lacks name shelf text tells loaded calm (stop.TooLong limit) cause =
    absurd (no_longer shelf.old.told name text tells loaded cause.1)
load_lacks name shelf text tells loaded calm stop.NoMemory cause = refl
load_lacks name shelf text tells loaded calm other cause = absurd cause

pub circuit_lacks : OneCircuit → (name : List ℕ) (shelf : ShelfChange) (circuit : Circuit) → shelf.old.told ≢ None
    → IsCircuitFile shelf.old.told name circuit → ¬ NameFailed name shelf → (why : Refusal) → CircuitStop name shelf why
    → why ≡ stop.NoMemory
circuit_lacks one name shelf circuit tells file calm (stop.BadText fault) cause =
    let same = told_text shelf.old.told name file.text cause.text tells file.loaded.stands cause.loaded.stands in
    absurd (cause.says.no_circuit circuit (subst (IsText circuit) (sym same) file.says))
circuit_lacks one name shelf circuit tells file calm other cause =
    load_lacks name shelf file.text tells file.loaded calm other cause

-- nor a claim, where the circuit has inputs for the public bits and as many outputs as are claimed
pub claim_lacks : OneCircuit → (name : List ℕ) (public outputs : List Bool) (shelf : ShelfChange) → shelf.old.told ≢ None
    → HasCircuit shelf.old.told name (λ circuit. (length public ≤ circuit.inputs) × (length outputs ≡ circuit.outputs))
    → ¬ NameFailed name shelf → (why : Refusal) → ClaimStop name public outputs shelf why → why ≡ stop.NoMemory
claim_lacks one name public outputs shelf tells ready calm (stop.ManyPublic inputs got) cause =
    let same = ap (λ c. c.inputs) (told_circuit one shelf.old.told name ready.circuit cause.circuit tells ready.file cause.file) in
    let few = ready.is.0 in
    let has = cause.is.has in
    let given = cause.is.given in
    let beyond = cause.is.beyond in
    absurd (omega (arith, same, few, has, given, beyond))
claim_lacks one name public outputs shelf tells ready calm (stop.WrongOutputs need got) cause =
    let same = told_circuit one shelf.old.told name ready.circuit cause.circuit tells ready.file cause.file in
    absurd (cause.is.3 (cause.is.1 ∙ ap (λ c. c.outputs) same ∙ sym ready.is.1 ∙ sym cause.is.2))
claim_lacks one name public outputs shelf tells ready calm other cause =
    circuit_lacks one name shelf ready.circuit tells ready.file calm other cause

undecoded_7 : (side : Side) (bytes : List ℕ) (fault : FileFault) → IsDealtFile side bytes → IsFirstFileFault side bytes fault
    → stop_status (stop.BadFile fault) ≡ 7
undecoded_7 side bytes file.BadMagic dealt first = absurd (first dealt.body.head.magic)
undecoded_7 side bytes file.BadKind dealt first = absurd (first.2 dealt.body.head.of_side)
undecoded_7 side bytes file.BadParam dealt first = absurd (first.3 dealt.body.head.params)
undecoded_7 side bytes (file.Length need got) dealt first =
    elim first.1 [ inl short ↦ absurd (short.1 dealt.body.head.header) | inr other ↦ absurd (other.1 dealt.body.length) ]
undecoded_7 side bytes (file.BadElement place) dealt first = absurd (dealt.in_range place first.1.bad)
undecoded_7 side bytes file.ZeroKey dealt first = absurd (first.2 dealt.key)
undecoded_7 side bytes file.BadDigest dealt first = absurd (first.3 dealt.digest)
undecoded_7 side bytes file.NoMemory dealt first = refl

-- a dealt file of this side stands there
pub file_7 : (side : Side) (name : List ℕ) (shelf : ShelfChange) → shelf.old.told ≢ None → (dealt : HasText shelf.old.told name (IsDealtFile side))
    → ¬ NameFailed name shelf → (why : Refusal) → FileStop side name shelf why → stop_status why ≡ 7
file_7 side name shelf tells dealt calm (stop.BadFile fault) cause =
    let same = told_text shelf.old.told name dealt.text cause.text tells dealt.loaded.stands cause.loaded.stands in
    undecoded_7 side dealt.text fault dealt.says (subst (λ (b : List ℕ). IsFirstFileFault side b fault) same cause.says)
file_7 side name shelf tells dealt calm other cause =
    ap stop_status (load_lacks name shelf dealt.text tells dealt.loaded calm other cause)

-- ---- a journal that is not refused, on a disk that does not fail

pub sound_7 : (Cause : StartFault → Type 0) (disk : DiskChange) → ((fault : StartFault) → fault ≢ start.Device → ¬ Cause fault)
    → ¬ Rose disk.old.faults disk.new.faults → (why : Refusal) → JournalStop Cause disk why → stop_status why ≡ 7
sound_7 Cause disk sound calm (stop.JournalFailed count) cause = absurd (calm cause.1)
sound_7 Cause disk sound calm (stop.JournalShort need got) cause = absurd (sound (start.Short need got) (λ e. cc) cause)
sound_7 Cause disk sound calm (stop.JournalHeader place) cause = absurd (sound (start.BadHeader place) (λ e. cc) cause)
sound_7 Cause disk sound calm (stop.JournalBody slot) cause = absurd (sound (start.BadBody slot) (λ e. cc) cause)
sound_7 Cause disk sound calm stop.NoMemory cause = refl
sound_7 Cause disk sound calm other cause = absurd cause
