-- `serve` and `serve-many`: what is served and said, and what a run of either promises.
use Rattle.std.specs.Prelude.{◌≡◌, ◌≢◌, ◌⊎◌, ◌+◌, ◌*◌, ◌≤◌, max, ◌++◌, ◌∷◌, ℕ, List, All, AllPairs, Contains, length, Bool, true, false, Option, None, Some, IfSome, String, string_bytes}
use Rattle.std.specs.Borrow.{Bor}
use Rattle.std.specs.List.{AllZip, sum_by}
use Rattle.std.specs.List.Sorted.{IsNonDecreasingBy}
use Rattle.std.specs.declared.alloc.Global.{Global}
use Rattle.zk_model.specs.HonestProver.{ProverTask}
use Rattle.zk_model.specs.Statement.{Statement}
use Rattle.zk_model.specs.declared.Side.TheVariants.{Verifier}
use Rattle.zk_model.specs.declared.limits.TheConstants.{MAX_UNITS}
use Rattle.zk_port.specs.Counts.{Rose}
use Rattle.zk_port.specs.Disks.{Choice, DiskState}
use Rattle.lease_core.specs.Machine.{ceiling_for}
use Rattle.lease_journal.specs.declared.fault.StartFault.{StartFault}
use Rattle.lease_words.specs.Calls.{AreGathered}
use Rattle.lease_words.specs.declared.pass.Pass.{Pass}
use Rattle.lease_store.specs.Ceilings.{SaysCeiling}
use Rattle.zk_port.specs.Doors.{after_listen}
use Rattle.zk_port.specs.Files.{Files}
use Rattle.zk_port.specs.Links.{LinkState}
use Rattle.dealer_files.specs.Faults.{IsDealtFile}
use Rattle.session_core.specs.Jobs.{VerifierJob, VerifierJobs, AreVerifierJobs, IsTooLarge, all_jobs, noted_job, units_of_job}
use Rattle.session_core.specs.declared.verifier_job.TooLarge as size
use Rattle.session_pool.specs.Doors.{TakesLinks}
use Rattle.session_pool.specs.Notes.{AreGrantsApart, IsBetween, IsMarked, IsRefusedAmong, TellsMark, faults_met}
use Rattle.session_verifier.specs.Notes.{HasHonestCaller}
use Rattle.session_verifier.specs.Outcomes.{grant_fault}
use Rattle.session_verifier.specs.Sessions.{IsVerifierNote}
use Rattle.session_verifier.specs.declared.note.SessionNote.{SessionNote}
use Rattle.session_verifier.specs.declared.note.VerifierOutcome.TheVariants.{Accepted}
use Rattle.command_words.specs.Commands.{named_options}
use Rattle.command_words.specs.declared.asks.ServeManyAsk.{ServeManyAsk}
use Rattle.claim_files.specs.NamedClaims.{Claimed, HasClaimed, IsClaimName, IsClaimOf, IsStatementOf, LacksStatement}
use Rattle.claim_files.specs.Services.{Service, service}
use Rattle.claim_files.specs.declared.claim_names.ClaimNames.{ClaimNames}
use Rattle.file_commands.specs.Journals.{IsCeilingsFault, LeavesUnits, DiskChange, IsUntouched, JournalStop, KeepsCeiling, OnlyReads, own_journal}
use Rattle.session_verifier.specs.NoteLines.{IsServedText, has_status, start_of}
use Rattle.file_commands.specs.Effects.{ShelfChange, DoorChange, SomeFailed, SinkFailed, Effects, HasFailed, OtherNamesStay, OnlyAsks, OnlyLoads, IsDone}
use Rattle.zk_cli.specs.Runs.{EachNote}
use Rattle.session_verifier.specs.ServiceLogs.{IsLogName, KeepsLogs, SaysService, no_faults}
use Rattle.file_commands.specs.Stops.{ListenStop, WritesAll, SaysStop, IsOfStop, HasText, FileStop, IsVerifierFileAt}
use Rattle.zk_cli.specs.declared.finish.Part.{Part}
use Rattle.zk_cli.specs.declared.finish.Part.TheVariants.{Plain, Served}
use Rattle.file_commands.specs.declared.refusal.Refusal.{Refusal}
use Rattle.file_commands.specs.declared.refusal.Refusal.TheVariants.{TooLarge, NoMemory}

-- what is served, of these claims
abbrev pub service_of : ServeManyAsk (String Global) (Bor (List ClaimNames)) → Service
service_of ask = service (string_bytes ask.address) (string_bytes ask.file) ask.statements.now (named_options ask.options)

-- the names of the claims' files; with that of the verifier's, those that are loaded; and with those of logs, all that are asked for
abbrev pub IsClaimsName : List ClaimNames → List ℕ → Type 0
IsClaimsName claims name = (claim : ClaimNames) × Contains claims claim × IsClaimName claim name

abbrev pub IsLoadedName : Service → List ℕ → Type 0
IsLoadedName service name = IsClaimsName service.claims name ⊎ (name ≡ service.file)

abbrev pub IsServeName : Service → List ℕ → Type 0
IsServeName service name = IsLoadedName service name ⊎ IsLogName service.options.logs name

-- what a verifier is to do about a claim: over its file, in sections of the length that is named
pub record IsServeJob (told : Option Files) (service : Service) (named : ClaimNames) (claimed : Claimed) (job : VerifierJob)
    : Type 0 where
  pub claim : IsClaimOf told named claimed job.task.statement
  pub file : IsVerifierFileAt told service.file job.task.file
  pub section : job.section_length ≡ service.options.section

-- and about all of them, each by its number, over one file
pub record AreServeJobs (told : Option Files) (service : Service) (jobs : VerifierJobs) : Type 0 where
  pub each : AllZip (λ claim job. (claimed : Claimed) × IsServeJob told service claim claimed job) service.claims (all_jobs jobs)
  pub are : AreVerifierJobs jobs

-- each session takes few units
abbrev pub TakeFewUnits : VerifierJobs → Type 0
TakeFewUnits jobs = All (λ job. units_of_job job ≤ MAX_UNITS) (all_jobs jobs)

-- how many the session of a note takes
abbrev pub units_of_note : {L : Type 0} → VerifierJobs → SessionNote L → ℕ
units_of_note jobs note = units_of_job (noted_job jobs note.statement)

-- ---- why nothing is served

-- the first of these claims that can't be had: those before it have statements
pub record LacksClaim (claims : List ClaimNames) (shelf : ShelfChange) (stop : Refusal) : Type 0 where
  pub before : List ClaimNames
  pub claim : ClaimNames
  pub behind : List ClaimNames
  pub are : claims ≡ before ++ claim ∷ behind
  pub had : All (λ other. (statement : Statement) × IsStatementOf shelf.old.told other statement) before
  pub cause : LacksStatement claim shelf stop

-- why the claims and the file can't be had, the first of these
abbrev pub LacksFiles : Service → ShelfChange → Refusal → Type 0
LacksFiles service shelf stop = LacksClaim service.claims shelf stop
    ⊎ (All (λ claim. (statement : Statement) × IsStatementOf shelf.old.told claim statement) service.claims
    × FileStop Verifier service.file shelf stop)

-- the first of these jobs whose session takes too many units
pub record IsFirstTooLarge (jobs : List VerifierJob) (found : size.TooLarge) : Type 0 where
  pub before : List VerifierJob
  pub job : VerifierJob
  pub behind : List VerifierJob
  pub are : jobs ≡ before ++ job ∷ behind
  pub few : All (λ other. units_of_job other ≤ MAX_UNITS) before
  pub large : IsTooLarge job found

-- why jobs are not made
abbrev pub FitStop : List VerifierJob → Refusal → Type 0
FitStop jobs (TooLarge need units) = IsFirstTooLarge jobs (record { need = need; units = units })
FitStop jobs NoMemory = Unit {0}
FitStop jobs stop = ⊥

-- the journal that a service opens: how it is chosen, and which fault a disk's content has as such a journal of a file of this id and total
pub record OpenedJournal : Type 1 where
  pub choice : Choice
  pub HasFault : List ℕ → ℕ → DiskState → StartFault → Type 0

-- that of the verifier's file, which says a ceiling
abbrev pub ceilings_journal : Service → OpenedJournal
ceilings_journal service = record { choice = own_journal service.file; HasFault = IsCeilingsFault }

-- Why no session is opened: one takes too many units, and nothing is asked of the disk or the door; the journal is not opened, and
-- nothing is asked of the door; or the door does not listen. The journal is at most read.
abbrev pub StopsOpening : OpenedJournal → Service → VerifierJobs → DiskChange → DoorChange → Refusal → Type 0
StopsOpening journal service jobs disk door (TooLarge need units) =
    IsFirstTooLarge (all_jobs jobs) (record { need = need; units = units }) × IsUntouched disk × (door.new ≡ door.old)
StopsOpening journal service jobs disk door stop = TakeFewUnits jobs × OnlyReads journal.choice disk
    × ((JournalStop (journal.HasFault jobs.first.task.file.id jobs.first.task.file.params.total disk.old) disk stop
    × (door.new ≡ door.old)) ⊎ ListenStop service.address service.options.timeout door stop)

-- Why nothing is served, the first of these: a claim's circuit can't be had, has too few inputs for the public bits, or another number
-- of outputs, or the file of these can't be had; the verifier's file can't be had; a session is too large; the journal is not opened; the door does not listen.
abbrev pub StopsService : OpenedJournal → Service → ShelfChange → DiskChange → DoorChange → Refusal → Type 0
StopsService journal service shelf disk door stop =
    (LacksFiles service shelf stop × IsUntouched disk × (door.new ≡ door.old))
    ⊎ ((jobs : VerifierJobs) × AreServeJobs shelf.old.told service jobs × StopsOpening journal service jobs disk door stop)

-- of a service with units of the file's own journal
abbrev pub OpeningStop : Service → VerifierJobs → DiskChange → DoorChange → Refusal → Type 0
OpeningStop service jobs disk door stop = StopsOpening (ceilings_journal service) service jobs disk door stop

abbrev pub ServeStop : Service → ShelfChange → DiskChange → DoorChange → Refusal → Type 0
ServeStop service shelf disk door stop = StopsService (ceilings_journal service) service shelf disk door stop

-- ---- what is served

-- The sessions that were led. The door listened at the address, once, with the patience that was asked for and for so many sessions, and as many links were taken as
-- there are notes. The file's journal was opened at the base that it says, and kept. Granted spans have the units of a session about their
-- note's statement, are apart, lie between the base and a ceiling that every image of the disk recovers, and end within the total. A journal
-- is said to have failed only where a call of the disk failed; and units to be missing only where those of the other sessions leave too few.
-- There were as many workers as were asked for, each with a pass, and what these drew tiles from the base on.
pub record LeadsJobs {L : Type 0} (link_tells : L → LinkState) (service : Service) (jobs : VerifierJobs) (notes : List (SessionNote L))
    (door_failed memory_failed : Bool) (disk : DiskChange) (door : DoorChange) : Type 0 where
  pub few : TakeFewUnits jobs
  pub each : All (IsVerifierNote link_tells jobs) notes
  pub taken : TakesLinks service.options.sessions (length notes) door_failed memory_failed
      (after_listen service.address service.options.timeout service.options.sessions door.old) door.new
  pub base : ℕ
  pub recovered : (bytes : List ℕ) → disk.old.content ≡ Some bytes
      → SaysCeiling jobs.first.task.file.id jobs.first.task.file.params.total base bytes
  pub ceiling : ℕ
  pub mark : ℕ
  pub kept : KeepsCeiling (own_journal service.file) jobs.first.task.file.id jobs.first.task.file.params.total base ceiling mark disk
  pub apart : AllPairs (λ one other. AreGrantsApart one.granted other.granted) notes
  pub spans : All (λ note. IsBetween (units_of_note jobs note) base ceiling note.granted) notes
  pub within : All (λ note. IfSome note.granted (λ span. span.end ≤ jobs.first.task.file.params.total)) notes
  pub most : ceiling ≤ max base (ceiling_for jobs.first.task.file.params.total (base + sum_by (units_of_note jobs) notes))
  pub marked : All (λ note. IsMarked mark (grant_fault note.outcome)) notes
  pub told : All (λ note. TellsMark mark (grant_fault note.outcome)) notes
  pub once : faults_met (λ note. grant_fault note.outcome) notes ≤ 1
  pub refused : All (λ note. IfSome (grant_fault note.outcome)
      (IsRefusedAmong (units_of_note jobs) base jobs.first.task.file.params.total notes note)) notes
  -- the passes of the workers, one for each, and what they drew
  pub passes : List Pass
  pub workers : length passes ≡ service.options.workers
  pub gathered : AreGathered base ceiling mark passes

-- the jobs of what was asked stand above all notes
pub record LeadsFiles {L : Type 0} (link_tells : L → LinkState) (service : Service) (notes : List (SessionNote L))
    (door_failed memory_failed : Bool) (told : Option Files) (disk : DiskChange) (door : DoorChange) : Type 0 where
  pub jobs : VerifierJobs
  pub served : AreServeJobs told service jobs
  pub leads : LeadsJobs link_tells service jobs notes door_failed memory_failed disk door

-- sessions were led; their notes are in the order of their first units, their logs are kept, the lines of their notes are written, and the status is theirs
pub record SaysNotes {L : Type 0} (link_tells : L → LinkState) (service : Service)
    (notes : List (SessionNote L)) (disk : DiskChange) (door : DoorChange) (run : Effects) : Type 0 where
  pub door_failed : Bool
  pub memory_failed : Bool
  pub leads : LeadsFiles link_tells service notes door_failed memory_failed run.shelf.old.told disk door
  pub ordered : IsNonDecreasingBy (λ note. start_of note.granted) notes
  pub says : SaysService service.options.logs notes door_failed memory_failed run

-- what was served is handed back, exactly where the door listened, and said; or the line of a stop is written, which
-- has its cause, and then nothing on the shelf is changed, and no log is asked for
abbrev pub ServeLines : {L : Type 0} → (L → LinkState) → Service → Part L → DiskChange → DoorChange → Effects → Type 0
ServeLines link_tells service (Served notes) disk door run = SaysNotes link_tells service notes.items disk door run
ServeLines link_tells service Plain disk door run =
    SaysStop (ServeStop service run.shelf disk door) run × OnlyLoads (IsLoadedName service) run.shelf
ServeLines link_tells service part disk door run = ⊥

-- ---- what the status says

-- a call of the door that `serve` makes failed: to listen, or to give the next link
abbrev pub DoorCallFailed : DoorChange → Type 0
DoorCallFailed door =
    Rose door.old.listen_faults door.new.listen_faults ⊎ Rose door.old.next_faults door.new.next_faults

-- every session is accepted, all lines are written, all logs are kept, and no call of the door or the sink failed
pub record AllAccepted {L : Type 0} (service : Service) (notes : List (SessionNote L)) (door : DoorChange) (run : Effects) : Type 0 where
  pub each : All (λ note. note.outcome ≡ Accepted) notes
  pub lines : (text : List ℕ) × IsServedText notes false text × WritesAll text run.sink
  pub logs : KeepsLogs service.options.logs notes run.shelf no_faults
  pub listen_quiet : door.new.listen_faults ≡ door.old.listen_faults
  pub next_quiet : door.new.next_faults ≡ door.old.next_faults

-- Once the door listened: 0 where every session is accepted; 1 where one was rejected, or its peer ended, sent another
-- frame or another hello; 4 where the door, the shelf, the sink or the link of a session failed; 5 where the journal did; 6 where the units
-- of one were wanting; 7: memory
abbrev pub NotesMean : {L : Type 0} → Service → List (SessionNote L) → DiskChange → DoorChange → Effects → Type 0
NotesMean service notes disk door run =
    ((run.status ≡ 0) × AllAccepted service notes door run)
    ⊎ ((run.status ≡ 1) × (has_status notes 1 ≡ true))
    ⊎ ((run.status ≡ 4) × (DoorCallFailed door ⊎ SomeFailed (IsLogName service.options.logs) run.shelf ⊎ SinkFailed run.sink
    ⊎ (has_status notes 4 ≡ true)))
    ⊎ ((run.status ≡ 5) × Rose disk.old.faults disk.new.faults × (has_status notes 5 ≡ true))
    ⊎ ((run.status ≡ 6) × (has_status notes 6 ≡ true))
    ⊎ (run.status ≡ 7)

-- before that, that of a stop which has its cause, or 7
abbrev pub ServiceMeans : {L : Type 0} → OpenedJournal → Service → Part L → DiskChange → DoorChange → Effects → Type 0
ServiceMeans journal service (Served notes) disk door run = NotesMean service notes.items disk door run
ServiceMeans journal service Plain disk door run =
    IsOfStop (StopsService journal service run.shelf disk door) run.status ⊎ (run.status ≡ 7)
ServiceMeans journal service part disk door run = ⊥

abbrev pub ServeMeans : {L : Type 0} → Service → Part L → DiskChange → DoorChange → Effects → Type 0
ServeMeans service part disk door run = ServiceMeans (ceilings_journal service) service part disk door run

-- ---- where nothing is refused and nothing fails

-- a shelf that tells has a circuit of each claim, with inputs for its public bits and as many outputs as it claims, and a verifier's file,
-- about which a session takes few units
pub record HasServiceFiles (told : Option Files) (service : Service) : Type 0 where
  pub tells : told ≢ None
  pub claims : All (HasClaimed told) service.claims
  pub file : HasText told service.file (IsDealtFile Verifier)
  pub few : (jobs : VerifierJobs) → AreServeJobs told service jobs → TakeFewUnits jobs

-- and the disk has its journal, which leaves as many units as all sessions take
pub record IsServable (told : Option Files) (disk : DiskState) (service : Service) : Type 0 where
  pub files : HasServiceFiles told service
  pub room : (jobs : VerifierJobs) → AreServeJobs told service jobs
      → (most : ℕ) × All (λ job. units_of_job job ≤ most) (all_jobs jobs) × LeavesUnits jobs.first.task.file.id
      jobs.first.task.file.params.total (most * service.options.sessions) disk.content

-- a call failed: one of the shelf for one of the names, one of the sink, the disk or the door
abbrev pub HasServeFailed : Service → DiskChange → DoorChange → Effects → Type 0
HasServeFailed service disk door run =
    HasFailed (IsServeName service) run ⊎ Rose disk.old.faults disk.new.faults ⊎ DoorCallFailed door

-- a session whose peer is an honest prover of one of the claims, the first that its hello is for, and whose link did not fail
pub record IsWithHonestProver {L : Type 0} (link_tells : L → LinkState) (told : Option Files) (service : Service)
    (note : SessionNote L) : Type 0 where
  pub calm : ¬ Rose 0 (link_tells note.link).faults
  pub honest : (jobs : VerifierJobs) → AreServeJobs told service jobs
      → (prover : ProverTask) × HasHonestCaller jobs prover note.outcome note.log

-- Sessions are served with the peers that called where the door listened at the address, over the file's journal, and what came of them
-- is handed back and said; or nothing is handed back, and the line of a stop with its cause is written. What the status says; that all is
-- done where nothing is refused, nothing fails and all peers are honest; and that nothing but the files of the claims and of the verifier,
-- and names of logs, is asked of the shelf, and nothing but logs is changed there.
pub record Serves {L : Type 0} (link_tells : L → LinkState) (service : Service) (part : Part L)
    (disk : DiskChange) (door : DoorChange) (run : Effects) : Type 0 where
  pub lines : ServeLines link_tells service part disk door run
  pub means : ServeMeans service part disk door run
  pub done : IsServable run.shelf.old.told disk.old service → ¬ HasServeFailed service disk door run
      → EachNote part (IsWithHonestProver link_tells run.shelf.old.told service) → IsDone run.status
  pub others : OtherNamesStay (IsLogName service.options.logs) run.shelf.old.told run.shelf.new.told
  pub asked : OnlyAsks (IsServeName service) run.shelf
