-- `prove ADDRESS FILE CIRCUIT BITS OUTPUTS` and `prove-arith ADDRESS FILE CIRCUIT VALUES OUTPUTS`: what is proved and said, and what a run
-- promises.
use Rattle.std.specs.Prelude.{◌≡◌, ◌≢◌, ◌⊎◌, ◌==◌, ◌+◌, ◌<◌, ◌≤◌, ◌++◌, ℕ, List, map, codes, Bool, Option, None, Some, IfSome, if◌then◌else◌}
use Rattle.std.specs.Fmt.{decimal}
use Rattle.zk_model.specs.Arithmetic.{Arith}
use Rattle.zk_model.specs.Bits.{from_bit}
use Rattle.zk_model.specs.Circuit.{Circuit}
use Rattle.lease_journal.specs.Twins.{HoldsTwin}
use Rattle.zk_model.specs.declared.JournalKind.TheVariants.{Claims}
use Rattle.zk_model.specs.ServedVerifier.{VerifierTask}
use Rattle.zk_model.specs.Statement.{Statement}
use Rattle.zk_model.specs.Transcript.{Grant}
use Rattle.zk_model.specs.declared.Side.TheVariants.{Prover}
use Rattle.zk_model.specs.declared.Span.{Span}
use Rattle.zk_port.specs.Counts.{Rose}
use Rattle.zk_port.specs.Disks.{DiskState}
use Rattle.zk_port.specs.Doors.{after_connect}
use Rattle.zk_port.specs.Files.{Files}
use Rattle.zk_port.specs.Links.{LinkState}
use Rattle.lease_core.specs.Spans.{span}
use Rattle.claim_store.specs.Causes.{AreFewClaims}
use Rattle.claim_store.specs.Claims.{AreInUse, SaysClaims, first_met}
use Rattle.dealer_files.specs.Faults.{IsDealtFile}
use Rattle.session_core.specs.Jobs.{ProverJob}
use Rattle.session_core.specs.declared.wire_values.WireValues.{WireValues}
use Rattle.session_core.specs.declared.wire_values.WireValues.TheVariants.{Bits, Given}
use Rattle.session_prover.specs.Completing.{HasHonestVerifier}
use Rattle.session_prover.specs.Notes.{IsGrantRead}
use Rattle.session_prover.specs.Sessions.{IsProverNote}
use Rattle.session_prover.specs.Stages.{Claim}
use Rattle.session_prover.specs.declared.note.ProverNote.{ProverNote}
use Rattle.session_prover.specs.declared.note.ProverOutcome.{ProverOutcome}
use Rattle.session_prover.specs.declared.note.ProverOutcome.TheVariants as ended
use Rattle.claim_files.specs.ArithFiles.{HasArith, IsElementsFile}
use Rattle.file_commands.specs.ClaimedUnits.{KeepsClaims}
use Rattle.file_commands.specs.Journals.{IsClaimsFault, HasClaims, DiskChange, IsUntouched, JournalStop, OnlyReads, own_journal}
use Rattle.file_commands.specs.Effects.{ShelfChange, DoorChange, SinkFailed, Effects, HasFailed, IsDone, OnlyLoads}
use Rattle.file_commands.specs.Stops.{ConnectStop, PrintsMade, SaysStop, IsOfStop, WritesAll, HasCircuit, HasText, FileStop, IsProverFileAt}
use Rattle.file_commands.specs.declared.refusal.Refusal.{Refusal}
use Rattle.prove_command.specs.BitsProofs.{BitsProofStop, HasWires, IsBitsJob, IsSatisfied, IsWitnessed}
use Rattle.prove_command.specs.ElementsProofs.{AreGivenValues, ElementsProofStop, HasSolution, IsElementsJob, IsSolved}
use Rattle.prove_command.specs.Proofs.{Proof}
use Rattle.prove_command.specs.declared.proof.ProofNames.{ProofNames}
use Rattle.prove_command.specs.declared.proof.ProofNames.TheVariants as names

-- the names of the files of what is to be proved, and beside these that of the prover's
abbrev pub IsWitnessName : ProofNames → List ℕ → Type 0
IsWitnessName (names.Boolean proof) name = name ≡ proof.circuit
IsWitnessName (names.Arithmetic proof) name = (name ≡ proof.circuit) ⊎ (name ≡ proof.values) ⊎ (name ≡ proof.outputs)

abbrev pub IsProveName : Proof → List ℕ → Type 0
IsProveName proof name = IsWitnessName proof.names name ⊎ (name ≡ proof.file)

-- where a shelf tells, this is the claim, and with these values of its inputs a prover proves it; and this makes the given values then
abbrev pub HasWitness : Option Files → ProofNames → Statement → List ℕ → WireValues → Type 0
HasWitness told (names.Boolean proof) statement inputs (Bits bits) = HasWires told proof statement inputs bits.items
HasWitness told (names.Arithmetic proof) statement inputs (Given given) =
    (circuit : Arith) × IsSolved told proof circuit statement inputs × AreGivenValues circuit inputs given.items
HasWitness told proof statement inputs wires = ⊥

-- there is a claim, and what proves it
abbrev pub IsTrueClaim : Option Files → ProofNames → Type 0
IsTrueClaim told (names.Boolean proof) =
    (circuit : Circuit) × (statement : Statement) × (wires : List Bool) × IsWitnessed told proof circuit statement wires
IsTrueClaim told (names.Arithmetic proof) =
    (circuit : Arith) × (statement : Statement) × (inputs : List ℕ) × IsSolved told proof circuit statement inputs

-- a prover is to prove the claim by what proves it
abbrev pub IsClaimJob : Option Files → ProofNames → ProverJob → Type 0
IsClaimJob told (names.Boolean proof) job = IsBitsJob told proof job
IsClaimJob told (names.Arithmetic proof) job = IsElementsJob told proof job

-- and this over its file
pub record IsProveJob (told : Option Files) (proof : Proof) (job : ProverJob) : Type 0 where
  pub claim : IsClaimJob told proof.names job
  pub file : IsProverFileAt told proof.file job.file

-- ---- why nothing is proved

-- why there is no claim with what proves it
abbrev pub WitnessStop : ProofNames → ShelfChange → Refusal → Type 0
WitnessStop (names.Boolean proof) shelf stop = BitsProofStop proof shelf stop
WitnessStop (names.Arithmetic proof) shelf stop = ElementsProofStop proof shelf stop

-- Why the claim with its proof, and the file, can't be had, the first of these: there is no such claim; or there is, but no file.
abbrev pub LacksProof : Proof → ShelfChange → Refusal → Type 0
LacksProof proof shelf stop = WitnessStop proof.names shelf stop
    ⊎ (IsTrueClaim shelf.old.told proof.names × FileStop Prover proof.file shelf stop)

-- why no session of a job begins: its file's journal is not opened, and nothing is asked of the door; or the door does not connect. The
-- journal is at most read.
pub record BeginningStop (proof : Proof) (job : ProverJob) (disk : DiskChange) (door : DoorChange) (stop : Refusal) : Type 0 where
  pub reads : OnlyReads (own_journal proof.file) disk
  pub cause : (JournalStop (IsClaimsFault job.file.id job.file.params.total disk.old) disk stop × (door.new ≡ door.old))
      ⊎ ConnectStop proof.address proof.timeout door stop

-- what was to be proved is there, but no session begins
abbrev pub LacksLink : Option Files → Proof → DiskChange → DoorChange → Refusal → Type 0
LacksLink told proof disk door stop =
    (job : ProverJob) × IsProveJob told proof job × BeginningStop proof job disk door stop

-- Why nothing is proved, the first of these: there is no claim with what proves it; the file can't be had; the journal is not opened; the
-- door does not connect.
abbrev pub ProveStop : Proof → ShelfChange → DiskChange → DoorChange → Refusal → Type 0
ProveStop proof shelf disk door stop =
    (LacksProof proof shelf stop × IsUntouched disk × (door.new ≡ door.old))
    ⊎ LacksLink shelf.old.told proof disk door stop

-- ---- what is proved

-- a session about a job was held over a link to the address, and units were claimed for it in the file's journal as it says
pub record HoldsSession {L : Type 0} (link_tells : L → LinkState) (proof : Proof) (job : ProverJob) (note : ProverNote L)
    (disk : DiskChange) (door : DoorChange) : Type 0 where
  pub claim : Claim
  pub is_note : IsProverNote link_tells job claim note
  pub connected : door.new ≡ after_connect proof.address proof.timeout door.old
  pub kept : KeepsClaims (own_journal proof.file) job.file.id job.file.params.total claim.asked claim.answer disk

-- and the job is what was asked
pub record HoldsAsked {L : Type 0} (link_tells : L → LinkState) (proof : Proof) (note : ProverNote L)
    (told : Option Files) (disk : DiskChange) (door : DoorChange) : Type 0 where
  pub job : ProverJob
  pub proved : IsProveJob told proof job
  pub holds : HoldsSession link_tells proof job note disk door

-- ---- what is said

-- the units that were claimed, before how the verifier judged
abbrev pub span_words : Option Span → List ℕ
span_words None = codes "units none"
span_words (Some span) = codes "units " ++ decimal span.start ++ codes ".." ++ decimal span.end

-- what the verdict's code says was not equal, at this number
abbrev pub verdict_words : ℕ → ℕ → List ℕ
verdict_words code number = (if code == 1 then codes " rejected sum " else codes " rejected opening ") ++ decimal number

-- the line of a session for which these units were claimed, where the disk's calls have failed so often
abbrev pub proved_line : Option Span → ℕ → ProverOutcome → List ℕ
proved_line granted count ended.Accepted = span_words granted ++ codes " accepted\n"
proved_line granted count (ended.Rejected code number) = span_words granted ++ verdict_words code number ++ codes "\n"
proved_line granted count (ended.PeerEnded at) = codes "peer ended " ++ decimal at ++ codes "\n"
proved_line granted count (ended.BadFrame place) = codes "peer frame " ++ decimal place ++ codes "\n"
proved_line granted count ended.BadGrant = codes "peer grant\n"
proved_line granted count (ended.PeerRefused code) = codes "peer refused " ++ decimal code ++ codes "\n"
proved_line granted count (ended.Overlap earlier) =
    codes "peer overlap " ++ decimal earlier.start ++ codes ".." ++ decimal earlier.end ++ codes "\n"
proved_line granted count (ended.OutOfRange total) = codes "peer range " ++ decimal total ++ codes "\n"
proved_line granted count (ended.Full slots) = codes "journal full " ++ decimal slots ++ codes "\n"
proved_line granted count (ended.Broken first) = codes "journal failed " ++ decimal first ++ codes "\n"
proved_line granted count ended.Device = codes "journal failed " ++ decimal count ++ codes "\n"
proved_line granted count ended.Link = codes "failed link\n"
proved_line granted count ended.NoMemory = codes "memory\n"

-- its status: 8 where the peer broke the protocol
abbrev pub proved_status : ProverOutcome → ℕ
proved_status ended.Accepted = 0
proved_status (ended.Rejected code number) = 1
proved_status ended.Link = 4
proved_status ended.Device = 5
proved_status (ended.Broken first) = 5
proved_status (ended.Full slots) = 5
proved_status ended.NoMemory = 7
proved_status outcome = 8

-- A session is handed back, exactly where the door connected, and its line is written; or the line of a stop is, which has its cause.
abbrev pub ProveLines : {L : Type 0} → (L → LinkState) → Proof → Option (ProverNote L) → DiskChange → DoorChange → Effects → Type 0
ProveLines link_tells proof (Some note) disk door run = HoldsAsked link_tells proof note run.shelf.old.told disk door
    × PrintsMade (proved_status note.outcome) (proved_line note.granted disk.new.faults note.outcome) run.status run.sink
ProveLines link_tells proof None disk door run = SaysStop (ProveStop proof run.shelf disk door) run

-- What the status says. Of a session: 0 where it is accepted and its line is written; 4 where the sink failed; else that of its outcome,
-- which is another, or 7. Before that: that of a stop which has its cause, 4 where the sink failed, or 7.
abbrev pub ProveMeans : {L : Type 0} → Proof → Option (ProverNote L) → DiskChange → DoorChange → Effects → Type 0
ProveMeans proof (Some note) disk door run =
    ((run.status ≡ 0) × (note.outcome ≡ ended.Accepted) × WritesAll (proved_line note.granted disk.new.faults note.outcome) run.sink)
    ⊎ ((run.status ≡ proved_status note.outcome) × (note.outcome ≢ ended.Accepted))
    ⊎ ((run.status ≡ 4) × SinkFailed run.sink)
    ⊎ (run.status ≡ 7)
ProveMeans proof None disk door run = IsOfStop (ProveStop proof run.shelf disk door) run.status
    ⊎ ((run.status ≡ 4) × SinkFailed run.sink) ⊎ (run.status ≡ 7)

-- ---- where nothing is refused and nothing fails

-- where a shelf tells, a claim stands under the names, and what proves it: a circuit gives the claimed outputs at the bits, or at the elements
-- of a file
abbrev pub HasTruth : Option Files → ProofNames → Type 0
HasTruth told (names.Boolean proof) = HasCircuit told proof.circuit (IsSatisfied proof)
HasTruth told (names.Arithmetic proof) = HasArith told proof.circuit (HasSolution told proof)

-- a shelf that tells has this, and a prover's file; and the disk has its journal
pub record IsProvable (told : Option Files) (disk : DiskState) (proof : Proof) : Type 0 where
  pub tells : told ≢ None
  pub claim : HasTruth told proof.names
  pub file : HasText told proof.file (IsDealtFile Prover)
  pub journal : (job : ProverJob) → IsProveJob told proof job → HasClaims job.file.id job.file.params.total disk.content

-- a call failed: one of the shelf for one of the names, one of the sink, the disk or the door
abbrev pub HasProveFailed : Proof → DiskChange → DoorChange → Effects → Type 0
HasProveFailed proof disk door run = HasFailed (IsProveName proof) run ⊎ Rose disk.old.faults disk.new.faults
    ⊎ Rose door.old.connect_faults door.new.connect_faults

-- the units of a grant are free in a journal of claims: they end at or below the total, no claim has one of them, and a slot is left, or
-- the ranges of the claims and of them are no more than the slots
pub record AreFree (total slots used : ℕ) (claims : List Span) (given : Grant) : Type 0 where
  pub within : given.start + given.count ≤ total
  pub apart : first_met (span given.start (given.start + given.count)) claims ≡ None
  pub room : (used < slots) ⊎ AreFewClaims slots claims (span given.start (given.start + given.count))

-- where a shelf tells, these are the values of the private inputs
abbrev pub AreInputs : Option Files → ProofNames → List ℕ → Type 0
AreInputs told (names.Boolean proof) inputs = inputs ≡ map from_bit proof.bits
AreInputs told (names.Arithmetic proof) inputs = IsElementsFile told proof.values inputs

-- a session whose link did not fail, whose peer is an honest verifier of what was asked, and in which the units of the grant are free in the
-- journal that the disk has
pub record IsWithHonestVerifier {L : Type 0} (link_tells : L → LinkState) (told : Option Files) (disk : DiskState) (proof : Proof)
    (note : ProverNote L) : Type 0 where
  pub calm : ¬ Rose 0 (link_tells note.link).faults
  pub honest : (job : ProverJob) → IsProveJob told proof job → (inputs : List ℕ) × AreInputs told proof.names inputs
      × (verifier : VerifierTask) × HasHonestVerifier job inputs verifier note.outcome note.log
  pub free : (job : ProverJob) → IsProveJob told proof job
      → (given : Grant) → IsGrantRead job note.log given → (bytes : List ℕ) → disk.content ≡ Some bytes
      → (begin slots used : ℕ) (claims : List Span) → HoldsTwin Claims job.file.id job.file.params.total begin slots bytes
      → SaysClaims job.file.params.total begin slots claims bytes → AreInUse begin slots used bytes
      → AreFree job.file.params.total slots used claims given

-- A session is held with the verifier at the address, over the file's journal, and what came of it is handed back and said; or nothing is
-- handed back, and the line of a stop with its cause is written. Nothing is sent and nothing is claimed unless the circuit gives the
-- claimed outputs at the inputs, and an arithmetic one's assertions are met. What the status says; that all is done where nothing is
-- refused, nothing fails and the verifier is honest; and that nothing but the files of what is to be proved and of the prover is asked of
-- the shelf.
pub record Proves {L : Type 0} (link_tells : L → LinkState) (proof : Proof) (note : Option (ProverNote L))
    (disk : DiskChange) (door : DoorChange) (run : Effects) : Type 0 where
  pub lines : ProveLines link_tells proof note disk door run
  pub means : ProveMeans proof note disk door run
  pub done : IsProvable run.shelf.old.told disk.old proof → ¬ HasProveFailed proof disk door run
      → IfSome note (IsWithHonestVerifier link_tells run.shelf.old.told disk.old proof) → IsDone run.status
  pub kept : OnlyLoads (IsProveName proof) run.shelf
