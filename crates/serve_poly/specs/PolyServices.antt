-- `serve-poly`: what is served and said, and what a run promises.
use Rattle.std.specs.Prelude.{◌≡◌, ◌⊎◌, ◌+◌, ◌<◌, ◌≤◌, max, ℕ, List, All, AllPairs, Bool, Option, None, Some, IfSome, IsSomeAnd}
use Rattle.std.specs.List.{sum_by}
use Rattle.std.specs.List.Sorted.{IsNonDecreasingBy}
use Rattle.zk_model.specs.Files.{VerifierFile}
use Rattle.zk_model.specs.Transcript.{units_for}
use Rattle.zk_model.specs.declared.Side.TheVariants.{Verifier}
use Rattle.zk_model.specs.declared.limits.TheConstants.{MAX_UNITS}
use Rattle.zk_port.specs.Counts.{Rose}
use Rattle.zk_port.specs.Disks.{LeavesOnly}
use Rattle.zk_port.specs.Files.{Files}
use Rattle.zk_port.specs.Links.{LinkState}
use Rattle.lease_core.specs.Machine.{ceiling_for}
use Rattle.lease_store.specs.Ceilings.{FindsCeiling, SaysCeiling}
use Rattle.poly_model.specs.Constraints.{Constraints}
use Rattle.poly_files.specs.PolyFiles.{HasPoly, PolyStop}
use Rattle.poly_session.specs.PolyClaims.{poly_claim}
use Rattle.session_claim.specs.Claims.{Claim, claim_needs}
use Rattle.session_pool.specs.Notes.{AreGrantsApart, IsBetween}
use Rattle.session_verifier.specs.NoteLines.{start_of}
use Rattle.session_verifier.specs.ServiceLogs.{IsLogName, SaysService}
use Rattle.session_verifier.specs.declared.note.SessionNote.{SessionNote}
use Rattle.session_service.specs.NotesMean.{NotesMean}
use Rattle.session_service.specs.ServiceRuns.{LeadsSessions, Place, Sessions, StopsListening, place, sessions_by}
use Rattle.claim_verifier.specs.Hearing.{units_of}
use Rattle.claim_service.specs.ClaimNotes.{IsClaimNote, IsShownSession}
use Rattle.command_words.specs.Words.{ServePolyAsk}
use Rattle.file_commands.specs.Effects.{DoorChange, Effects, OnlyAsks, OnlyLoads, OtherNamesStay, ShelfChange}
use Rattle.file_commands.specs.Journals.{DiskChange, IsUntouched}
use Rattle.file_commands.specs.Stops.{FileStop, IsOfStop, IsVerifierFileAt, SaysStop}
use Rattle.file_commands.specs.declared.refusal.Refusal.{Refusal}
use Rattle.file_commands.specs.declared.refusal.Refusal.TheVariants.{TooLarge}

-- the files that are loaded; and with those of logs, all that are asked for
abbrev pub IsLoadedName : ServePolyAsk → List ℕ → Type 0
IsLoadedName ask name = (name ≡ ask.text) ⊎ (name ≡ ask.file)

abbrev pub IsServeName : ServePolyAsk → List ℕ → Type 0
IsServeName ask name = IsLoadedName ask name ⊎ IsLogName ask.options.logs name

-- where sessions are led
abbrev pub place_asked : ServePolyAsk → Place
place_asked ask = place ask.address ask.file ask.options

-- what is served: constraints, with the digest of their text, over a verifier's file
pub record PolyService : Type 0 where
  pub constraints : Constraints
  pub digest : List ℕ
  pub file : VerifierFile

abbrev pub claim_served : PolyService → Claim
claim_served served = poly_claim served.constraints served.digest

-- where a shelf tells, these stand under the names
pub record IsServedAt (told : Option Files) (ask : ServePolyAsk) (served : PolyService) : Type 0 where
  pub constraints : HasPoly told ask.text served.constraints served.digest
  pub file : IsVerifierFileAt told ask.file served.file

-- the units of a session, and sessions about the constraints
abbrev pub units_served : ServePolyAsk → PolyService → ℕ
units_served ask served = units_of (claim_served served) served.file ask.options.section

abbrev pub sessions_served : {L : Type 0} → (L → LinkState) → ServePolyAsk → PolyService → Sessions L
sessions_served link_tells ask served = sessions_by served.file.id served.file.params.total (λ note. units_served ask served)
    (IsClaimNote link_tells (claim_served served) served.file ask.options.section)

-- ---- why nothing is served

-- why the constraints and the file can't be had, the first of these
abbrev pub LacksFiles : ServePolyAsk → ShelfChange → Refusal → Type 0
LacksFiles ask shelf stop = PolyStop ask.text shelf stop
    ⊎ ((constraints : Constraints) × (digest : List ℕ) × HasPoly shelf.old.told ask.text constraints digest × FileStop Verifier ask.file shelf stop)

-- a session about a claim takes so many correlations, and too many units
abbrev pub TakesTooMany : Claim → VerifierFile → ℕ → Refusal → Type 0
TakesTooMany claim file section_length (TooLarge need units) =
    (need ≡ claim_needs claim section_length) × (units ≡ units_of claim file section_length) × (MAX_UNITS < units)
TakesTooMany claim file section_length other = ⊥

-- Why no session is led: one takes too many units, and nothing is asked of the disk or the door; or the journal is not opened, or the door
-- does not listen.
abbrev pub StopsServing : ServePolyAsk → PolyService → DiskChange → DoorChange → Refusal → Type 0
StopsServing ask served disk door stop =
    (TakesTooMany (claim_served served) served.file ask.options.section stop × IsUntouched disk × (door.new ≡ door.old))
    ⊎ ((units_served ask served ≤ MAX_UNITS) × StopsListening (place_asked ask) served.file.id served.file.params.total disk door stop)

-- Why nothing is served, the first of these: the constraints can't be had; the file can't; a session takes too many units; the journal is not
-- opened; the door does not listen.
abbrev pub ServePolyStop : ServePolyAsk → ShelfChange → DiskChange → DoorChange → Refusal → Type 0
ServePolyStop ask shelf disk door stop =
    (LacksFiles ask shelf stop × IsUntouched disk × (door.new ≡ door.old))
    ⊎ ((served : PolyService) × IsServedAt shelf.old.told ask served × StopsServing ask served disk door stop)

-- ---- what is served

-- sessions were led about what stands under the names
pub record LeadsPoly {L : Type 0} (link_tells : L → LinkState) (ask : ServePolyAsk) (notes : List (SessionNote L)) (door_failed memory_failed : Bool)
    (told : Option Files) (disk : DiskChange) (door : DoorChange) : Type 0 where
  pub served : PolyService
  pub stands : IsServedAt told ask served
  pub few : units_served ask served ≤ MAX_UNITS
  pub leads : LeadsSessions (place_asked ask) (sessions_served link_tells ask served) notes door_failed memory_failed disk door

-- their notes are in the order of their first units, their logs are kept, the lines of their notes are written, and the status is theirs
pub record SaysPoly {L : Type 0} (link_tells : L → LinkState) (ask : ServePolyAsk) (notes : List (SessionNote L)) (disk : DiskChange)
    (door : DoorChange) (run : Effects) : Type 0 where
  pub door_failed : Bool
  pub memory_failed : Bool
  pub leads : LeadsPoly link_tells ask notes door_failed memory_failed run.shelf.old.told disk door
  pub ordered : IsNonDecreasingBy (λ note. start_of note.granted) notes
  pub says : SaysService ask.options.logs notes door_failed memory_failed run

-- what was served is handed back, exactly where the door listened, and said; or the line of a stop is written, which has its cause, and then
-- nothing on the shelf is changed, and no log is asked for
abbrev pub PolyServiceLines : {L : Type 0} → (L → LinkState) → ServePolyAsk → Option (List (SessionNote L)) → DiskChange → DoorChange → Effects → Type 0
PolyServiceLines link_tells ask (Some notes) disk door run = SaysPoly link_tells ask notes disk door run
PolyServiceLines link_tells ask None disk door run =
    SaysStop (ServePolyStop ask run.shelf disk door) run × OnlyLoads (IsLoadedName ask) run.shelf

-- what the status says: of the sessions; or before that, that of a stop which has its cause, or 7
abbrev pub PolyServiceMeans : {L : Type 0} → ServePolyAsk → Option (List (SessionNote L)) → DiskChange → DoorChange → Effects → Type 0
PolyServiceMeans ask (Some notes) disk door run = NotesMean ask.options.logs notes disk door run
PolyServiceMeans {L} ask None disk door run = IsOfStop (ServePolyStop ask run.shelf disk door) run.status ⊎ (run.status ≡ 7)

-- Sessions are served with the peers that called where the door listened at the address, over the file's journal, and what came of them is
-- handed back and said; or nothing is handed back, and the line of a stop with its cause is written. What the status says; and that nothing
-- but both files and names of logs is asked of the shelf, and nothing but logs is changed there.
pub record ServesPoly {L : Type 0} (link_tells : L → LinkState) (ask : ServePolyAsk) (notes : Option (List (SessionNote L))) (disk : DiskChange)
    (door : DoorChange) (run : Effects) : Type 0 where
  pub lines : PolyServiceLines link_tells ask notes disk door run
  pub means : PolyServiceMeans ask notes disk door run
  pub others : OtherNamesStay (IsLogName ask.options.logs) run.shelf.old.told run.shelf.new.told
  pub asked : OnlyAsks (IsServeName ask) run.shelf

-- The headline, of the constraints and the file that a shelf tells under the names (of one that tells nothing, of some constraints and some
-- file). The log of an accepted session is that of a whole session that the verifier leads about the constraints, with a grant of the units
-- that were leased, and its check holds. For every prover's file that is dealt with the verifier's there are pairs that it sees in the
-- session; and of all such pairs it shows that the values that they and the corrections fix meet all constraints, or that the challenge is a
-- root of the errors, which are not all 0, or that the key is a root of a named polynomial that is not zero, of the constraints' degree at
-- most.
pub record ShowsConstraints {L : Type 0} (told : Option Files) (ask : ServePolyAsk) (note : SessionNote L) : Type 0 where
  pub served : PolyService
  pub stands : IsServedAt told ask served
  pub shows : IsShownSession (claim_served served) served.file ask.options.section note.granted note.log

-- Its second part, of the file that a shelf tells, and the journal with which the disk was handed in: the granted spans of this run, in the
-- order of their first units, have no unit in common; each begins at or above the ceiling that the journal said, and ends at or below a
-- ceiling that the content and each image of the disk that comes back say, or a higher one. At any moment of the run a crash leaves what one
-- might have left before it, or says the ceiling that the journal said, or a higher one. That ceiling is the one that the journal said, or at
-- most the one for as many units as all sessions take; and where no call of the disk failed, the content says it exactly.
pub record GrantsPolyOnce {L : Type 0} (told : Option Files) (ask : ServePolyAsk) (notes : List (SessionNote L)) (disk : DiskChange) : Type 0 where
  pub served : PolyService
  pub stands : IsServedAt told ask served
  pub few : units_served ask served ≤ MAX_UNITS
  pub base : ℕ
  pub recovered : (bytes : List ℕ) → disk.old.content ≡ Some bytes → SaysCeiling served.file.id served.file.params.total base bytes
  pub ordered : IsNonDecreasingBy (λ note. start_of note.granted) notes
  pub apart : AllPairs (λ one other. AreGrantsApart one.granted other.granted) notes
  pub ceiling : ℕ
  pub grows : base ≤ ceiling
  pub most : ceiling ≤ max base (ceiling_for served.file.params.total (base + sum_by (λ note. units_served ask served) notes))
  pub spans : All (λ note. IsBetween (units_served ask served) base ceiling note.granted) notes
  pub exact : ¬ Rose disk.old.faults disk.new.faults → IfSome disk.new.content (SaysCeiling served.file.id served.file.params.total ceiling)
  pub read : (bytes : List ℕ) → disk.old.content ≡ Some bytes
      → IsSomeAnd disk.new.content (FindsCeiling served.file.id served.file.params.total ceiling bytes)
  pub durable : (bytes : List ℕ) → disk.old.content ≡ Some bytes → (image : List ℕ) → disk.new.images image
      → FindsCeiling served.file.id served.file.params.total ceiling bytes image
  pub any_moment : (bytes : List ℕ) → disk.old.content ≡ Some bytes → LeavesOnly disk.old disk.new
      (λ image. disk.old.images image ⊎ FindsCeiling served.file.id served.file.params.total base bytes image)
