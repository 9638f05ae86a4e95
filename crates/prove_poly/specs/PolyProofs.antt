-- `prove-poly ADDRESS FILE TEXT VALUES`: what is proved and said, and what a run promises.
use Rattle.std.specs.Prelude.{◌≡◌, ◌≢◌, ◌⊎◌, ℕ, List, Option, None, Some}
use Rattle.zk_model.specs.Files.{ProverFile}
use Rattle.zk_model.specs.declared.Side.TheVariants.{Prover}
use Rattle.zk_port.specs.Doors.{after_connect}
use Rattle.zk_port.specs.Files.{Files}
use Rattle.zk_port.specs.Links.{LinkState}
use Rattle.command_words.specs.Words.{ProvePolyAsk}
use Rattle.poly_model.specs.Constraints.{Constraints}
use Rattle.session_prover.specs.Stages.{Claim}
use Rattle.session_prover.specs.declared.note.ProverNote.{ProverNote}
use Rattle.session_prover.specs.declared.note.ProverOutcome.TheVariants as ended
use Rattle.claim_prover.specs.Telling.{Knowledge}
use Rattle.claim_files.specs.ArithFiles.{IsEither}
use Rattle.file_commands.specs.ClaimedUnits.{KeepsClaims}
use Rattle.file_commands.specs.Effects.{ShelfChange, DoorChange, SinkFailed, Effects, OnlyLoads}
use Rattle.file_commands.specs.Journals.{IsClaimsFault, DiskChange, IsUntouched, JournalStop, OnlyReads, own_journal}
use Rattle.file_commands.specs.Stops.{ConnectStop, PrintsMade, SaysStop, IsOfStop, WritesAll, FileStop, IsProverFileAt}
use Rattle.file_commands.specs.declared.refusal.Refusal.{Refusal}
use Rattle.poly_files.specs.PolyFiles.{IsPolyWitness, PolyWitnessStop}
use Rattle.prove_command.specs.ProveRuns.{proved_line, proved_status}
use Rattle.prove_poly.specs.PolyNotes.{IsClaimSession, poly_knowledge}

-- the names of the files of what is to be proved, and beside these that of the prover's
abbrev pub IsPolyName : ProvePolyAsk → List ℕ → Type 0
IsPolyName ask name = IsEither ask.text ask.values name ⊎ (name ≡ ask.file)

-- What a prover is to prove: that these values meet the constraints of a text with this digest; and over which file.
pub record PolyJob : Type 0 where
  pub constraints : Constraints
  pub digest : List ℕ
  pub values : List ℕ
  pub file : ProverFile

-- by these
abbrev pub poly_job : Constraints → List ℕ → List ℕ → ProverFile → PolyJob
poly_job constraints digest values file = record { constraints = constraints; digest = digest; values = values; file = file }

-- where a shelf tells, the constraints and values that meet all of them stand under their names, and the prover's file under its own
pub record IsPolyJob (told : Option Files) (ask : ProvePolyAsk) (job : PolyJob) : Type 0 where
  pub witness : IsPolyWitness told ask.text ask.values job.constraints job.digest job.values
  pub file : IsProverFileAt told ask.file job.file

-- there are constraints, and values that meet all of them
abbrev pub AreMetAt : Option Files → ProvePolyAsk → Type 0
AreMetAt told ask = (constraints : Constraints) × (digest : List ℕ) × (values : List ℕ)
    × IsPolyWitness told ask.text ask.values constraints digest values

-- ---- why nothing is proved

-- Why the constraints with values that meet them, and the file, can't be had, the first of these: there are no such values; or there are,
-- but no file.
abbrev pub LacksPoly : ProvePolyAsk → ShelfChange → Refusal → Type 0
LacksPoly ask shelf stop = PolyWitnessStop ask.text ask.values shelf stop
    ⊎ (AreMetAt shelf.old.told ask × FileStop Prover ask.file shelf stop)

-- why no session over a file begins: its journal is not opened, and nothing is asked of the door; or the door does not connect. The
-- journal is at most read.
pub record NoSession (ask : ProvePolyAsk) (file : ProverFile) (disk : DiskChange) (door : DoorChange) (stop : Refusal) : Type 0 where
  pub reads : OnlyReads (own_journal ask.file) disk
  pub cause : (JournalStop (IsClaimsFault file.id file.params.total disk.old) disk stop × (door.new ≡ door.old))
      ⊎ ConnectStop ask.address ask.timeout door stop

-- Why nothing is proved, the first of these: there are no constraints with values that meet all of them; the file can't be had; its
-- journal is not opened; the door does not connect.
abbrev pub ProvePolyStop : ProvePolyAsk → ShelfChange → DiskChange → DoorChange → Refusal → Type 0
ProvePolyStop ask shelf disk door stop =
    (LacksPoly ask shelf stop × IsUntouched disk × (door.new ≡ door.old))
    ⊎ ((job : PolyJob) × IsPolyJob shelf.old.told ask job × NoSession ask job.file disk door stop)

-- ---- what is proved

-- a session of a prover that knows this was held over a link to the address, and units were claimed for it in the file's journal as it says
pub record HoldsOver {L : Type 0} (link_tells : L → LinkState) (ask : ProvePolyAsk) (knows : Knowledge) (file : ProverFile)
    (note : ProverNote L) (disk : DiskChange) (door : DoorChange) : Type 0 where
  pub claim : Claim
  pub is_note : IsClaimSession knows file claim note.granted note.outcome note.log (link_tells note.link)
  pub connected : door.new ≡ after_connect ask.address ask.timeout door.old
  pub kept : KeepsClaims (own_journal ask.file) file.id file.params.total claim.asked claim.answer disk

-- and it is about what was asked
pub record HoldsPoly {L : Type 0} (link_tells : L → LinkState) (ask : ProvePolyAsk) (note : ProverNote L) (told : Option Files)
    (disk : DiskChange) (door : DoorChange) : Type 0 where
  pub job : PolyJob
  pub asked : IsPolyJob told ask job
  pub holds : HoldsOver link_tells ask (poly_knowledge job.constraints job.digest job.values) job.file note disk door

-- ---- what is said

-- A session is handed back, exactly where the door connected, and its line is written; or the line of a stop is, which has its cause.
abbrev pub ProvePolyLines : {L : Type 0} → (L → LinkState) → ProvePolyAsk → Option (ProverNote L) → DiskChange → DoorChange → Effects
    → Type 0
ProvePolyLines link_tells ask (Some note) disk door run = HoldsPoly link_tells ask note run.shelf.old.told disk door
    × PrintsMade (proved_status note.outcome) (proved_line note.granted disk.new.faults note.outcome) run.status run.sink
ProvePolyLines link_tells ask None disk door run = SaysStop (ProvePolyStop ask run.shelf disk door) run

-- What the status says. Of a session: 0 where it is accepted and its line is written; 4 where the sink failed; else that of its outcome,
-- which is another, or 7. Before that: that of a stop which has its cause, 4 where the sink failed, or 7.
abbrev pub ProvePolyMeans : {L : Type 0} → ProvePolyAsk → Option (ProverNote L) → DiskChange → DoorChange → Effects → Type 0
ProvePolyMeans ask (Some note) disk door run =
    ((run.status ≡ 0) × (note.outcome ≡ ended.Accepted) × WritesAll (proved_line note.granted disk.new.faults note.outcome) run.sink)
    ⊎ ((run.status ≡ proved_status note.outcome) × (note.outcome ≢ ended.Accepted))
    ⊎ ((run.status ≡ 4) × SinkFailed run.sink)
    ⊎ (run.status ≡ 7)
ProvePolyMeans ask None disk door run = IsOfStop (ProvePolyStop ask run.shelf disk door) run.status
    ⊎ ((run.status ≡ 4) × SinkFailed run.sink) ⊎ (run.status ≡ 7)

-- A session is held with the verifier at the address, over the file's journal, and what came of it is handed back and said; or nothing is
-- handed back, and the line of a stop with its cause is written. Nothing is sent and nothing is claimed unless the values meet all
-- constraints. What the status says; and that nothing but the files of what is to be proved and of the prover is asked of the shelf.
pub record ProvesPoly {L : Type 0} (link_tells : L → LinkState) (ask : ProvePolyAsk) (note : Option (ProverNote L)) (disk : DiskChange)
    (door : DoorChange) (run : Effects) : Type 0 where
  pub lines : ProvePolyLines link_tells ask note disk door run
  pub means : ProvePolyMeans ask note disk door run
  pub kept : OnlyLoads (IsPolyName ask) run.shelf
