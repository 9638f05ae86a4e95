-- `status FILE [CIRCUIT] [--node K]`: what it says of a dealt file, and what it promises of its run.
use Rattle.std.specs.Prelude.{◌≡◌, ◌≢◌, ◌⊎◌, ◌==◌, ◌-◌, ◌/◌, ◌≤◌, ◌++◌, ℕ, List, codes, slice_index, sum_by, nat_le, if◌then◌else◌, Option, None, Some, IfSome, IsSomeAnd}
use Rattle.std.specs.Fmt.{decimal}
use Rattle.hex.specs.Hex.{encode_lower}
use Rattle.zk_model.specs.Boolean.{circuit_program}
use Rattle.zk_model.specs.Circuit.{Circuit}
use Rattle.claim_store.specs.ClaimedRanges.{RiseFrom}
use Rattle.zk_model.specs.FileBytes.{prover_file_bytes, verifier_file_bytes}
use Rattle.zk_model.specs.Files.{ProverFile, VerifierFile, IsProverFile, IsVerifierFile}
use Rattle.zk_model.specs.Program.{correlations_needed}
use Rattle.zk_model.specs.Transcript.{units_for}
use Rattle.lease_journal.specs.Twins.{HoldsTwin}
use Rattle.zk_model.specs.declared.JournalKind.TheVariants.{Claims}
use Rattle.zk_model.specs.declared.Kind.{Kind}
use Rattle.zk_model.specs.declared.Kind.TheVariants.{Direct, Extended}
use Rattle.zk_model.specs.declared.Params.{Params}
use Rattle.zk_model.specs.declared.Side.{Side}
use Rattle.zk_model.specs.declared.Side.TheVariants.{Prover, Verifier}
use Rattle.zk_model.specs.declared.Span.{Span}
use Rattle.zk_model.specs.declared.limits.TheConstants.{MAX_SECTION_LENGTH, MAX_UNITS}
use Rattle.zk_port.specs.Counts.{Rose}
use Rattle.zk_port.specs.Disks.{Choice, DiskState}
use Rattle.zk_port.specs.Files.{Files}
use Rattle.zk_port.specs.declared.access.Access.TheVariants.{Read}
use Rattle.lease_journal.specs.declared.fault.StartFault.{StartFault}
use Rattle.lease_store.specs.Ceilings.{SaysCeiling}
use Rattle.claim_store.specs.Claims.{SaysClaims}
use Rattle.dealer_files.specs.Faults.{IsDealtFile, IsFirstFileFault}
use Rattle.command_words.specs.Words.{StatusAsk}
use Rattle.file_commands.specs.Effects.{ShelfChange, SinkFailed, Effects, OnlyLoads, HasFailed, IsDone}
use Rattle.file_commands.specs.Journals.{DiskChange, HasClaims, IsCeilingsFault, IsClaimsFault, IsUntouched, JournalStop, LeavesUnits, OnlyReads, OpensJournal, node_journal_name, read_journal}
use Rattle.file_commands.specs.Stops.{CircuitStop, HasCircuit, HasText, IsCircuitFile, IsOfStop, LoadStop, PrintsMade, SaysStop, WritesAll}
use Rattle.file_commands.specs.declared.refusal.Refusal.{Refusal}
use Rattle.file_commands.specs.declared.refusal.Refusal.TheVariants.{BadFile}
use Rattle.status_command.specs.declared.dealing.Dealing.{Dealing}
use Rattle.status_command.specs.declared.dealing.DealtFile.{DealtFile}
use Rattle.status_command.specs.declared.dealing.DealtFile.TheVariants as dealt

-- the side whose dealt file these bytes are to be: the verifier's where byte 8, counted from 0, is 1, and else the prover's
abbrev pub side_in : List ℕ → Side
side_in bytes = if slice_index bytes 8 == 1 then Verifier else Prover

-- the side whose dealt file is asked about: the verifier's with a node, and else the one that the bytes say
abbrev pub side_of : Option ℕ → List ℕ → Side
side_of None bytes = side_in bytes
side_of (Some number) bytes = Verifier

-- the side whose kind of journal is read: a node's is one of claims, as a prover's, and else it is the file's own
abbrev pub journal_side : Option ℕ → Side → Side
journal_side None side = side
journal_side (Some number) side = Prover

-- the journal that is read: the node's, and else the file's
abbrev pub status_journal : List ℕ → Option ℕ → Choice
status_journal file None = read_journal file
status_journal file (Some number) = (node_journal_name file number, Read)

-- what a dealt file says of its dealing
abbrev pub dealing_of : DealtFile → Dealing
dealing_of (dealt.Prover file) = record { side = Prover; id = file.id; params = file.params }
dealing_of (dealt.Verifier file) = record { side = Verifier; id = file.id; params = file.params }
dealing_of (dealt.Node file number) = record { side = Verifier; id = file.id; params = file.params }

-- the node that is asked about with it
abbrev pub node_of : DealtFile → Option ℕ
node_of (dealt.Prover file) = None
node_of (dealt.Verifier file) = None
node_of (dealt.Node file number) = Some number

-- these bytes are a dealt file of this side, with the id of a dealing, and made for what that was
abbrev pub IsFileOf : Side → List ℕ → Dealing → Type 0
IsFileOf Prover bytes dealing = (file : ProverFile) × (prover_file_bytes file ≡ bytes) × IsProverFile file
    × (dealing.id ≡ file.id) × (dealing.params ≡ file.params)
IsFileOf Verifier bytes dealing = (file : VerifierFile) × (verifier_file_bytes file ≡ bytes) × IsVerifierFile file
    × (dealing.id ≡ file.id) × (dealing.params ≡ file.params)

-- of the side that is asked about
abbrev pub IsDealingOf : Option ℕ → List ℕ → Dealing → Type 0
IsDealingOf number bytes dealing = (dealing.side ≡ side_of number bytes) × IsFileOf dealing.side bytes dealing

-- where a shelf tells, the bytes under the name are a dealt file of the side that is asked about, with this id and these numbers
abbrev pub IsDealing : Option Files → List ℕ → Option ℕ → Dealing → Type 0
IsDealing told name number dealing = HasText told name (λ bytes. IsDealingOf number bytes dealing)

-- ---- how many units are used

-- how many units a span has
abbrev pub units_of : Span → ℕ
units_of s = s.end - s.start

-- A journal of claims of this id and total stands in these bytes. Its claims, as ranges that rise and of which no two touch, have so many
-- units.
pub record SaysClaimed (id : List ℕ) (total used : ℕ) (bytes : List ℕ) : Type 0 where
  pub begin : ℕ
  pub slots : ℕ
  pub holds : HoldsTwin Claims id total begin slots bytes
  pub ranges : List Span
  pub says : SaysClaims total begin slots ranges bytes
  pub rising : RiseFrom 0 ranges
  pub used_is : used ≡ sum_by units_of ranges

-- so many units are used, as these bytes say, which are a journal of this side's kind: up to the ceiling at the verifier, and those of claims
-- at the prover
abbrev pub SaysUsedBy : Side → Dealing → ℕ → List ℕ → Type 0
SaysUsedBy Prover dealing used bytes = SaysClaimed dealing.id dealing.params.total used bytes
SaysUsedBy Verifier dealing used bytes = SaysCeiling dealing.id dealing.params.total used bytes

-- where the disk's content is known, it says so
abbrev pub SaysUsed : Option ℕ → Dealing → DiskState → ℕ → Type 0
SaysUsed number dealing disk used =
    (bytes : List ℕ) → disk.content ≡ Some bytes → SaysUsedBy (journal_side number dealing.side) dealing used bytes

-- ---- for how many sessions units are enough

-- the units that a session about the circuit takes that has no public bits, and the longest sections
abbrev pub session_units : Params → Circuit → ℕ
session_units params circuit = units_for params (correlations_needed (circuit_program 0 circuit) MAX_SECTION_LENGTH)

-- how many sessions of so many units are in these; none, where a session may not take so many
abbrev pub sessions_in : ℕ → ℕ → ℕ
sessions_in units left = if nat_le units MAX_UNITS then left / units else 0

-- how many sessions about the circuit
abbrev pub sessions_left : Params → Circuit → ℕ → ℕ
sessions_left params circuit left = sessions_in (session_units params circuit) left

-- where a shelf tells, the circuit that is asked about stands there, if one is, and so many units are what a session about it takes
abbrev pub TakesUnits : Option Files → Option (List ℕ) → Params → Option ℕ → Type 0
TakesUnits told None params units = units ≡ None
TakesUnits told (Some name) params units = HasCircuit told name (λ circuit. units ≡ Some (session_units params circuit))

-- and so many sessions about it are left
abbrev pub LeavesSessions : Option Files → Option (List ℕ) → Params → ℕ → Option ℕ → Type 0
LeavesSessions told None params left sessions = sessions ≡ None
LeavesSessions told (Some name) params left sessions =
    HasCircuit told name (λ circuit. sessions ≡ Some (sessions_left params circuit left))

-- ---- what is said

-- the kind, and in kind extended how many trees a unit has, how high they are, and how many base pairs it has
abbrev pub kind_words : Params → List ℕ
kind_words params = by_kind params.kind
  where
    by_kind : Kind → List ℕ
    by_kind Direct = codes "direct"
    by_kind Extended =
        codes "extended " ++ decimal params.trees ++ codes " " ++ decimal params.height ++ codes " " ++ decimal params.base

-- the id, and how many units of which kind, a line each
abbrev pub head_lines : Dealing → List ℕ
head_lines dealing =
    codes "id " ++ encode_lower dealing.id ++ codes "\nunits " ++ decimal dealing.params.total ++ codes " "
    ++ kind_words dealing.params ++ codes "\n"

-- and behind them a line that says how many units are used, and how many are left
abbrev pub status_lines : Dealing → ℕ → List ℕ
status_lines dealing used =
    head_lines dealing ++ codes "used " ++ decimal used ++ codes " left " ++ decimal (dealing.params.total - used) ++ codes "\n"

-- how many sessions are left; by claims at most so many, since each takes units that stand side by side, and what others used of the file is
-- not seen in a node's
abbrev pub sessions_line : Side → ℕ → List ℕ
sessions_line Prover sessions = codes "sessions at most " ++ decimal sessions ++ codes "\n"
sessions_line Verifier sessions = codes "sessions " ++ decimal sessions ++ codes "\n"

-- all lines: the last, if a circuit is asked about
abbrev pub status_text : Option ℕ → Dealing → ℕ → Option ℕ → List ℕ
status_text number dealing used None = status_lines dealing used
status_text number dealing used (Some sessions) = status_lines dealing used ++ sessions_line (journal_side number dealing.side) sessions

-- The dealt file under the name is of this dealing. Its journal, or the node's, was opened for reads, and says that so many units are used, of
-- which there are no more than the file has. What is left is enough for so many sessions about the circuit, if one is asked about; and the text says all this.
pub record HasStatus (ask : StatusAsk) (told : Option Files) (disk : DiskChange) (text : List ℕ) : Type 0 where
  pub dealing : Dealing
  pub file : IsDealing told ask.file ask.node dealing
  pub opens : OpensJournal (status_journal ask.file ask.node) disk
  pub used : ℕ
  pub says : SaysUsed ask.node dealing disk.old used
  pub within : used ≤ dealing.params.total
  pub sessions : Option ℕ
  pub left : LeavesSessions told ask.circuit dealing.params (dealing.params.total - used) sessions
  pub text_is : text ≡ status_text ask.node dealing used sessions

-- ---- why nothing is said

-- why there is no dealt file under the name: its bytes are none of the side that is asked about, and this is the first fault; or it can't be
-- loaded
abbrev pub DealtStop : List ℕ → Option ℕ → ShelfChange → Refusal → Type 0
DealtStop name number shelf (BadFile fault) = HasText shelf.old.told name (λ bytes. IsFirstFileFault (side_of number bytes) bytes fault)
DealtStop name number shelf other = LoadStop name shelf other

-- why the circuit that is asked about can't be had
abbrev pub LacksCircuit : Option (List ℕ) → ShelfChange → Refusal → Type 0
LacksCircuit circuit shelf stop = IsSomeAnd circuit (λ name. CircuitStop name shelf stop)

-- which of both can't be had, the first of these: the dealt file; or that can, but not the circuit
abbrev pub LacksFile : StatusAsk → ShelfChange → Refusal → Type 0
LacksFile ask shelf stop =
    DealtStop ask.file ask.node shelf stop
    ⊎ ((dealing : Dealing) × IsDealing shelf.old.told ask.file ask.node dealing × LacksCircuit ask.circuit shelf stop)

-- where a shelf tells, the circuit that is asked about stands there, if one is
abbrev pub HasAskedCircuit : Option Files → Option (List ℕ) → Type 0
HasAskedCircuit told asked = IfSome asked (λ name. (circuit : Circuit) × IsCircuitFile told name circuit)

-- the fault that a disk's content has as a journal of this side's kind of a dealing, where it is known
abbrev pub IsJournalFaultBy : Side → Dealing → DiskState → StartFault → Type 0
IsJournalFaultBy Prover dealing disk fault = IsClaimsFault dealing.id dealing.params.total disk fault
IsJournalFaultBy Verifier dealing disk fault = IsCeilingsFault dealing.id dealing.params.total disk fault

abbrev pub IsJournalFault : Option ℕ → Dealing → DiskState → StartFault → Type 0
IsJournalFault number dealing disk fault = IsJournalFaultBy (journal_side number dealing.side) dealing disk fault

-- both files can be had, but the journal is not opened
pub record LacksJournal (ask : StatusAsk) (told : Option Files) (disk : DiskChange) (stop : Refusal) : Type 0 where
  pub dealing : Dealing
  pub file : IsDealing told ask.file ask.node dealing
  pub circuit : HasAskedCircuit told ask.circuit
  pub reads : OnlyReads (status_journal ask.file ask.node) disk
  pub cause : JournalStop (IsJournalFault ask.node dealing disk.old) disk stop

-- Why nothing is said, the first of these: the dealt file, or the circuit, can't be had, and nothing is asked of the disk; or the journal is
-- not opened.
abbrev pub StatusStop : StatusAsk → ShelfChange → DiskChange → Refusal → Type 0
StatusStop ask shelf disk stop = (LacksFile ask shelf stop × IsUntouched disk) ⊎ LacksJournal ask shelf.old.told disk stop

-- ---- what a run promises

-- the names of the files that are loaded
abbrev pub IsReportedName : Option (List ℕ) → List ℕ → Type 0
IsReportedName circuit name = circuit ≡ Some name

abbrev pub IsStatusName : StatusAsk → List ℕ → Type 0
IsStatusName ask name = (name ≡ ask.file) ⊎ IsReportedName ask.circuit name

-- the lines of the status are written, or that of a stop, which has its cause
abbrev pub StatusLines : StatusAsk → DiskChange → Effects → Type 0
StatusLines ask disk run =
    ((text : List ℕ) × HasStatus ask run.shelf.old.told disk text × PrintsMade 0 text run.status run.sink)
    ⊎ SaysStop (StatusStop ask run.shelf disk) run

-- What the status says. 0: the lines say what is left, and all of them are written; else the cause of a stop with that status; or 4: the sink
-- failed; or 7: no memory.
abbrev pub ReportMeans : StatusAsk → DiskChange → Effects → Type 0
ReportMeans ask disk run =
    ((run.status ≡ 0) × (text : List ℕ) × HasStatus ask run.shelf.old.told disk text × WritesAll text run.sink)
    ⊎ IsOfStop (StatusStop ask run.shelf disk) run.status
    ⊎ ((run.status ≡ 4) × SinkFailed run.sink)
    ⊎ (run.status ≡ 7)

-- a journal of this side's kind of a dealing stands in the content
abbrev pub HasJournalBy : Side → Dealing → Option (List ℕ) → Type 0
HasJournalBy Prover dealing content = HasClaims dealing.id dealing.params.total content
HasJournalBy Verifier dealing content = LeavesUnits dealing.id dealing.params.total 0 content

-- a shelf that tells has a dealt file under the name, of the side that is asked about, and, if it is asked for, the circuit; and the disk the
-- journal that is read
pub record IsReportable (told : Option Files) (disk : DiskState) (ask : StatusAsk) : Type 0 where
  pub tells : told ≢ None
  pub file : HasText told ask.file (λ bytes. IsDealtFile (side_of ask.node bytes) bytes)
  pub circuit : HasAskedCircuit told ask.circuit
  pub journal : (dealing : Dealing) → IsDealing told ask.file ask.node dealing
      → HasJournalBy (journal_side ask.node dealing.side) dealing disk.content

-- a call failed: one of the shelf for these files, one of the sink or of the disk
abbrev pub HasReportFailed : StatusAsk → DiskChange → Effects → Type 0
HasReportFailed ask disk run = HasFailed (IsStatusName ask) run ⊎ Rose disk.old.faults disk.new.faults

-- How much is left of the dealt file is said; or the line of a stop with its cause is. Nothing but the file and the circuit is asked of the
-- shelf, and in no case is anything written on the disk, or another file taken than the file's journal, or with a node that node's, for reads.
-- What the status says; and all is done where the files and the journal stand there, and nothing fails.
pub record Reports (ask : StatusAsk) (disk : DiskChange) (run : Effects) : Type 0 where
  pub lines : StatusLines ask disk run
  pub kept : OnlyLoads (IsStatusName ask) run.shelf
  pub reads : OnlyReads (status_journal ask.file ask.node) disk
  pub statuses : (run.status ≡ 0) ⊎ (run.status ≡ 3) ⊎ (run.status ≡ 4) ⊎ (run.status ≡ 5) ⊎ (run.status ≡ 7)
  pub means : ReportMeans ask disk run
  pub done : IsReportable run.shelf.old.told disk.old ask → ¬ HasReportFailed ask disk run → IsDone run.status
