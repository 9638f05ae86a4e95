-- What a run says and answers, why it stops, and what is known of the files that it loads.
use Rattle.std.specs.Prelude.{◌≡◌, ◌≢◌, ◌⊎◌, ◌<◌, ◌≤◌, ℕ, List, length, ◌++◌, codes, Bool, true, false, Option, Some, None}
use Rattle.std.specs.Prelude.{nat_le, if◌then◌else◌}
use Rattle.std.specs.Fmt.{decimal}
use Rattle.sha2.specs.Sha256.{sha256}
use Rattle.zk_model.specs.Bristol.{IsText}
use Rattle.zk_model.specs.Circuit.{Circuit}
use Rattle.zk_model.specs.FileBytes.{prover_file_bytes, verifier_file_bytes}
use Rattle.zk_model.specs.Files.{ProverFile, VerifierFile, IsProverFile, IsVerifierFile}
use Rattle.zk_model.specs.Statement.{Statement, circuit_statement}
use Rattle.zk_model.specs.declared.ReadFault.{ReadFault}
use Rattle.zk_model.specs.declared.ReadFault.TheVariants as text
use Rattle.zk_model.specs.declared.Side.{Side}
use Rattle.zk_model.specs.declared.limits.TheConstants.{FILE_LIMIT}
use Rattle.zk_port.specs.Counts.{Rose}
use Rattle.zk_port.specs.Doors.{RefusesConnect, RefusesListen}
use Rattle.zk_port.specs.Files.{Files, StandsAs, StandsLonger}
use Rattle.zk_port.specs.Logs.{appended, AppendsPart}
use Rattle.zk_port.specs.declared.fault.PortFault.{PortFault}
use Rattle.zk_port.specs.declared.fault.PortFault.TheVariants as port
use Rattle.bristol_reader.specs.Reads.{IsOnlyFault}
use Rattle.dealer_files.specs.Faults.{IsFirstFileFault}
use Rattle.dealer_files.specs.declared.fault.FileFault.{FileFault}
use Rattle.dealer_files.specs.declared.fault.FileFault.TheVariants as file
use Rattle.element_file.specs.declared.fault.ElementsFault.{ElementsFault}
use Rattle.element_file.specs.declared.fault.ElementsFault.TheVariants as element
use Rattle.poly_text.specs.declared.fault.PolyFault.{PolyFault}
use Rattle.poly_text.specs.declared.fault.PolyFault.TheVariants as constraints
use Rattle.file_commands.specs.Effects.{DoorChange, ShelfChange, SinkChange, NameFailed, SinkFailed, Effects, HasFailed}
use Rattle.file_commands.specs.declared.refusal.Refusal.{Refusal}
use Rattle.file_commands.specs.declared.refusal.Refusal.TheVariants as stop

-- all of the text is written, and the sink did not fail
pub record WritesAll (text : List ℕ) (sink : SinkChange) : Type 0 where
  pub written : sink.new.written ≡ appended text sink.old.written
  pub quiet : sink.new.faults ≡ sink.old.faults

-- a sink that failed turns 0 and 1 into 4
abbrev pub after_sink_fault : ℕ → ℕ
after_sink_fault status = if nat_le status 1 then 4 else status

-- the text is written, and the status answered; or the sink failed after a first part of it, or memory was missing
abbrev pub Prints : ℕ → List ℕ → ℕ → SinkChange → Type 0
Prints status text answer sink =
    ((answer ≡ status) × WritesAll text sink)
    ⊎ ((answer ≡ after_sink_fault status) × AppendsPart text sink.old.written sink.new.written
    × SinkFailed sink × (sink.old.faults ≤ sink.new.faults))
    ⊎ ((answer ≡ 7) × AppendsPart text sink.old.written sink.new.written × (sink.new.faults ≡ sink.old.faults))

-- ---- stops, each with its status and its line

-- that a file is refused: the fault's name and number, and where it stands
abbrev pub refused_line : List ℕ → ℕ → List ℕ
refused_line fault place = codes "refused " ++ fault ++ codes " " ++ decimal place ++ codes "\n"

-- of a circuit's text: the token or the wire that the fault stands at
abbrev pub fault_line : ReadFault → List ℕ
fault_line (text.ShortText token) = refused_line (codes "ShortText 1") token
fault_line (text.BadNumber token) = refused_line (codes "BadNumber 2") token
fault_line (text.TooLarge token) = refused_line (codes "TooLarge 3") token
fault_line (text.BadGate token) = refused_line (codes "BadGate 4") token
fault_line (text.BadConstant token) = refused_line (codes "BadConstant 5") token
fault_line (text.WireRange token) = refused_line (codes "WireRange 6") token
fault_line (text.ReadBeforeSet token) = refused_line (codes "ReadBeforeSet 7") token
fault_line (text.SetTwice token) = refused_line (codes "SetTwice 8") token
fault_line (text.OutputUnset wire) = refused_line (codes "OutputUnset 9") wire
fault_line (text.ExtraText token) = refused_line (codes "ExtraText 10") token

-- words and two numbers, on a line
abbrev pub pair_line : List ℕ → ℕ → ℕ → List ℕ
pair_line words first second = words ++ codes " " ++ decimal first ++ codes " " ++ decimal second ++ codes "\n"

-- of a dealt file: the fault's fields; or that memory was missing to read it
abbrev pub file_line : FileFault → List ℕ
file_line file.BadMagic = codes "refused BadMagic 1\n"
file_line file.BadKind = codes "refused BadKind 2\n"
file_line file.BadParam = codes "refused BadParam 3\n"
file_line (file.Length need got) = pair_line (codes "refused Length 4") need got
file_line (file.BadElement place) = refused_line (codes "BadElement 5") place
file_line file.ZeroKey = codes "refused ZeroKey 6\n"
file_line file.BadDigest = codes "refused BadDigest 7\n"
file_line file.NoMemory = codes "memory\n"

-- of a file of elements: the token that is none; or how many are needed, and how many there are
abbrev pub elements_line : ElementsFault → List ℕ
elements_line (element.BadValue token) = refused_line (codes "BadValue 1") token
elements_line (element.Count need got) = pair_line (codes "refused Count 2") need got

-- of a text of constraints
abbrev pub poly_line : PolyFault → List ℕ
poly_line (constraints.ShortText token) = refused_line (codes "ShortText 1") token
poly_line (constraints.BadNumber token) = refused_line (codes "BadNumber 2") token
poly_line (constraints.TooLarge token) = refused_line (codes "TooLarge 3") token
poly_line (constraints.VarRange token) = refused_line (codes "VarRange 4") token
poly_line (constraints.ExtraText token) = refused_line (codes "ExtraText 5") token

-- the line that is written
abbrev pub stop_line : Refusal → List ℕ
stop_line stop.Usage = codes "usage: zk deal, eval, rehearse, prove, serve, serve-many, migrate, status, rehearse-poly, prove-poly, serve-poly, rehearse-arith, prove-arith, serve-arith, audit-arith, node, broker, serve-node or audit\n"
stop_line (stop.BadText fault) = fault_line fault
stop_line (stop.BadFile fault) = file_line fault
stop_line (stop.TooLong limit) = refused_line (codes "TooLong 0") limit
stop_line (stop.ManyPublic inputs got) = pair_line (codes "refused public") inputs got
stop_line (stop.WrongBits need got) = pair_line (codes "refused bits") need got
stop_line (stop.WrongOutputs need got) = pair_line (codes "refused outputs") need got
stop_line (stop.BadElements fault) = elements_line fault
stop_line (stop.BadConstraints fault) = poly_line fault
stop_line (stop.Unsatisfied output) = codes "unsatisfied " ++ decimal output ++ codes "\n"
stop_line (stop.TooLarge need units) = pair_line (codes "too large") need units
stop_line (stop.NotDealt unit) = refused_line (codes "NotDealt 8") unit
stop_line (stop.BadLog place) = refused_line (codes "LogFault 1") place
stop_line (stop.StatementLine line) = refused_line (codes "BadLine 1") line
stop_line (stop.StatementCount lines) = refused_line (codes "Count 2") lines
stop_line stop.ShelfFailed = codes "failed shelf\n"
stop_line stop.DoorFailed = codes "failed door\n"
stop_line (stop.JournalShort need got) = pair_line (codes "refused Short 1") need got
stop_line (stop.JournalHeader place) = refused_line (codes "BadHeader 2") place
stop_line (stop.JournalBody slot) = refused_line (codes "BadBody 3") slot
stop_line (stop.JournalFailed count) = codes "journal failed " ++ decimal count ++ codes "\n"
stop_line stop.NoMemory = codes "memory\n"

-- the status that is answered
abbrev pub stop_status : Refusal → ℕ
stop_status stop.Usage = 2
stop_status (stop.BadText fault) = 3
stop_status (stop.BadFile file.NoMemory) = 7
stop_status (stop.BadFile fault) = 3
stop_status (stop.TooLong limit) = 3
stop_status (stop.ManyPublic inputs got) = 3
stop_status (stop.WrongBits need got) = 3
stop_status (stop.WrongOutputs need got) = 3
stop_status (stop.BadElements fault) = 3
stop_status (stop.BadConstraints fault) = 3
stop_status (stop.Unsatisfied output) = 1
stop_status (stop.NotDealt unit) = 3
stop_status (stop.BadLog place) = 3
stop_status (stop.StatementLine line) = 3
stop_status (stop.StatementCount lines) = 3
stop_status stop.ShelfFailed = 4
stop_status stop.DoorFailed = 4
stop_status (stop.JournalShort need got) = 3
stop_status (stop.JournalHeader place) = 3
stop_status (stop.JournalBody slot) = 3
stop_status (stop.JournalFailed count) = 5
stop_status stop.NoMemory = 7
stop_status (stop.TooLarge need units) = 9

-- the text is written, or that there was no memory to make it
abbrev pub PrintsMade : ℕ → List ℕ → ℕ → SinkChange → Type 0
PrintsMade status text answer sink =
    Prints status text answer sink ⊎ Prints (stop_status stop.NoMemory) (stop_line stop.NoMemory) answer sink

-- the run stops, which has its cause, and the line of that is written, or that there was no memory for it
pub record SaysStop (Cause : Refusal → Type 0) (run : Effects) : Type 0 where
  pub stop : Refusal
  pub cause : Cause stop
  pub prints : PrintsMade (stop_status stop) (stop_line stop) run.status run.sink

-- this is the status of a stop that has its cause
abbrev pub IsOfStop : (Refusal → Type 0) → ℕ → Type 0
IsOfStop Cause status = (stop : Refusal) × Cause stop × (status ≡ stop_status stop)

-- What the status says of a run that does this, stops for these causes and asks for these names. 0: it is done; 3 and
-- 9: the cause of a stop with that status; 4: a call for one of the names failed, or one of the sink; 7: no memory.
abbrev pub StatusMeans : Type 0 → (Refusal → Type 0) → (List ℕ → Type 0) → Effects → Type 0
StatusMeans Does Cause IsNamed run =
    ((run.status ≡ 0) × Does)
    ⊎ ((run.status ≡ 3) × IsOfStop Cause 3)
    ⊎ ((run.status ≡ 4) × HasFailed IsNamed run)
    ⊎ (run.status ≡ 7)
    ⊎ ((run.status ≡ 9) × IsOfStop Cause 9)

-- the shelf failed, and memory was missing
abbrev pub is_shelf_failed : Option Refusal → Bool
is_shelf_failed (Some stop.ShelfFailed) = true
is_shelf_failed other = false

abbrev pub is_memory_missing : Option Refusal → Bool
is_memory_missing (Some stop.NoMemory) = true
is_memory_missing other = false

-- ---- files that are loaded, and why they can't be had

-- where a shelf tells, this text stands under the name, and it may be loaded
pub record IsLoaded (told : Option Files) (name text : List ℕ) : Type 0 where
  pub stands : StandsAs told name text
  pub fits : length text ≤ FILE_LIMIT

-- where a shelf tells, this holds of the text under the name
pub record HasText (told : Option Files) (name : List ℕ) (Holds : List ℕ → Type 0) : Type 0 where
  pub text : List ℕ
  pub loaded : IsLoaded told name text
  pub says : Holds text

-- where a shelf tells, the text under the name says this circuit
abbrev pub IsCircuitFile : Option Files → List ℕ → Circuit → Type 0
IsCircuitFile told name circuit = HasText told name (IsText circuit)

-- where a shelf tells, the text under the name says a circuit of which this holds
pub record HasCircuit (told : Option Files) (name : List ℕ) (Holds : Circuit → Type 0) : Type 0 where
  pub circuit : Circuit
  pub file : IsCircuitFile told name circuit
  pub is : Holds circuit

-- why the file of this name can't be loaded
abbrev pub LoadStop : List ℕ → ShelfChange → Refusal → Type 0
LoadStop name shelf stop.ShelfFailed = NameFailed name shelf
LoadStop name shelf (stop.TooLong limit) = (limit ≡ FILE_LIMIT) × StandsLonger shelf.old.told name FILE_LIMIT
LoadStop name shelf stop.NoMemory = Unit {0}
LoadStop name shelf other = ⊥

-- why the circuit under this name can't be had: its text says none, and has this first fault; or it can't be loaded
abbrev pub CircuitStop : List ℕ → ShelfChange → Refusal → Type 0
CircuitStop name shelf (stop.BadText fault) = HasText shelf.old.told name (λ text. IsOnlyFault text fault)
CircuitStop name shelf other = LoadStop name shelf other

-- where a shelf tells, the bytes under the name are those of this dealt file
abbrev pub IsProverFileAt : Option Files → List ℕ → ProverFile → Type 0
IsProverFileAt told name file = HasText told name (λ bytes. (prover_file_bytes file ≡ bytes) × IsProverFile file)

abbrev pub IsVerifierFileAt : Option Files → List ℕ → VerifierFile → Type 0
IsVerifierFileAt told name file = HasText told name (λ bytes. (verifier_file_bytes file ≡ bytes) × IsVerifierFile file)

-- why there is no dealt file of this side under the name: its bytes are none, and this is the first fault; or it can't be loaded
abbrev pub FileStop : Side → List ℕ → ShelfChange → Refusal → Type 0
FileStop side name shelf (stop.BadFile fault) = HasText shelf.old.told name (λ bytes. IsFirstFileFault side bytes fault)
FileStop side name shelf other = LoadStop name shelf other

-- there are more public bits than the circuit has inputs
pub record HasFewInputs (circuit : Circuit) (public : List Bool) (inputs got : ℕ) : Type 0 where
  pub has : inputs ≡ circuit.inputs
  pub given : got ≡ length public
  pub beyond : inputs < got

-- why a circuit can't have these public bits
abbrev pub PublicStop : Circuit → List Bool → Refusal → Type 0
PublicStop circuit public (stop.ManyPublic inputs got) = HasFewInputs circuit public inputs got
PublicStop circuit public other = ⊥

-- why there is no claim: the circuit has fewer inputs than there are public bits, or another number of outputs; or it can't be had
abbrev pub ClaimStop : List ℕ → List Bool → List Bool → ShelfChange → Refusal → Type 0
ClaimStop name public outputs shelf (stop.ManyPublic inputs got) =
    HasCircuit shelf.old.told name (λ circuit. HasFewInputs circuit public inputs got)
ClaimStop name public outputs shelf (stop.WrongOutputs need got) = HasCircuit shelf.old.told name
    (λ circuit. (length public ≤ circuit.inputs) × (need ≡ circuit.outputs) × (got ≡ length outputs) × (need ≢ got))
ClaimStop name public outputs shelf other = CircuitStop name shelf other

-- why these can't be its outputs
abbrev pub OutputsStop : Circuit → List Bool → Refusal → Type 0
OutputsStop circuit outputs (stop.WrongOutputs need got) = (need ≡ circuit.outputs) × (got ≡ length outputs) × (need ≢ got)
OutputsStop circuit outputs other = ⊥

-- a shelf that tells has this circuit under the name, and the bits fit it
pub record IsCircuitReady (told : Option Files) (name : List ℕ) (bits : List Bool) (circuit : Circuit) : Type 0 where
  pub tells : told ≢ None
  pub file : IsCircuitFile told name circuit
  pub inputs : length bits ≡ circuit.inputs

-- where a shelf tells, the text under the name says this circuit, which has at least as many inputs as there are public bits, and as many
-- outputs as are claimed; and this is the statement that with the public bits some private ones give them, with the digest of the text
pub record IsClaim
    (told : Option Files)
    (name : List ℕ)
    (public outputs : List Bool)
    (circuit : Circuit)
    (statement : Statement) : Type 0 where
  pub text : List ℕ
  pub loaded : IsLoaded told name text
  pub says : IsText circuit text
  pub few : length public ≤ circuit.inputs
  pub count : length outputs ≡ circuit.outputs
  pub statement_is : statement ≡ circuit_statement circuit (sha256 text) public outputs

-- ---- why a door gives no link

-- why a call of the door is refused, whose count of failures was this and is this now: it failed, or found no memory
abbrev pub DoorStop : Type 0 → ℕ → ℕ → Refusal → Type 0
DoorStop IsRefused before now stop.DoorFailed = IsRefused × Rose before now
DoorStop IsRefused before now stop.NoMemory = IsRefused × (now ≡ before)
DoorStop IsRefused before now other = ⊥

-- why the door does not listen at the address, or connect to it, with this patience
abbrev pub ListenStop : List ℕ → ℕ → DoorChange → Refusal → Type 0
ListenStop address patience door stop =
    DoorStop (RefusesListen address patience door.old door.new) door.old.listen_faults door.new.listen_faults stop

abbrev pub ConnectStop : List ℕ → ℕ → DoorChange → Refusal → Type 0
ConnectStop address patience door stop =
    DoorStop (RefusesConnect address patience door.old door.new) door.old.connect_faults door.new.connect_faults stop

-- what a connect that is refused stops a run by
abbrev pub connect_refusal : PortFault → Refusal
connect_refusal port.Failed = stop.DoorFailed
connect_refusal port.NoMemory = stop.NoMemory
