-- `serve-node`: what a node serves and says, and what its run promises.
use Rattle.std.specs.Prelude.{◌≡◌, ◌⊎◌, ℕ, ◌-◌, ◌<◌, ◌^◌, List, [], All, Contains, Bool, Option, Some, None, String, string_bytes}
use Rattle.std.specs.List.Sorted.{IsNonDecreasingBy, IsPermutation}
use Rattle.std.specs.declared.alloc.Global.{Global}
use Rattle.zk_port.specs.Changes.{Change, change}
use Rattle.zk_port.specs.Counts.{Rose}
use Rattle.zk_port.specs.Disks.{DiskState}
use Rattle.zk_port.specs.Doors.{DoorState, after_listen}
use Rattle.zk_port.specs.Files.{Files}
use Rattle.zk_port.specs.Links.{LinkState}
use Rattle.zk_port.specs.declared.access.Access.TheVariants.{Own}
use Rattle.claim_store.specs.Claims.{AreDurable, ClaimState, SaysClaims}
use Rattle.broker_links.specs.declared.note.Try.{Try}
use Rattle.broker_node.specs.NodeStates.{starting}
use Rattle.node_grants.specs.Desks.{Desk, desk}
use Rattle.node_grants.specs.Grants.{ports_of}
use Rattle.node_sessions.specs.Causes.{HaveCauses}
use Rattle.node_sessions.specs.Journals.{JournalSaysGrants}
use Rattle.node_sessions.specs.Laws.{ClaimsStay, GrantsClaim, GrantsNoUnitTwice}
use Rattle.node_sessions.specs.Sessions.{ServesAsNode}
use Rattle.session_core.specs.Jobs.{VerifierJobs}
use Rattle.session_verifier.specs.NoteLines.{start_of}
use Rattle.session_verifier.specs.ServiceLogs.{IsLogName, SaysService}
use Rattle.session_verifier.specs.declared.note.SessionNote.{SessionNote}
use Rattle.session_verifier.specs.declared.note.VerifierOutcome.TheVariants.{Accepted, NoBlock}
use Rattle.command_words.specs.BitWords.{Bits}
use Rattle.command_words.specs.Words.{ServeNodeAsk}
use Rattle.claim_files.specs.Services.{Service}
use Rattle.file_commands.specs.Effects.{DoorChange, Effects, HasFailed, OnlyAsks, OnlyLoads, OtherNamesStay}
use Rattle.file_commands.specs.Journals.{DiskChange, HasClaims, IsClaimsFault, OpensJournal, node_journal_name}
use Rattle.file_commands.specs.Stops.{SaysStop}
use Rattle.zk_cli.specs.Runs.{EachNote, OfNotes, told_change}
use Rattle.zk_cli.specs.ServeRuns.{AreServeJobs, DoorCallFailed, HasServiceFiles, IsLoadedName, IsServeName, IsWithHonestProver, OpenedJournal, ServiceMeans, StopsService, TakeFewUnits}
use Rattle.zk_cli.specs.declared.finish.Part.{Part}
use Rattle.zk_cli.specs.declared.finish.Part.TheVariants.{Plain, Served}
use Rattle.zk_cli.specs.declared.node_service.NodePlace.{NodePlace as NodePlaceOf}

-- where a node's broker listens, and the node's number
abbrev pub NodePlace : Type 0
NodePlace = NodePlaceOf (List ℕ)

abbrev pub node_place : List ℕ → ℕ → NodePlace
node_place broker node = record { broker = broker; node = node }

abbrev pub place_of : NodePlaceOf (String Global) → NodePlace
place_of place = node_place (string_bytes place.broker) place.node

abbrev pub place_asked : ServeNodeAsk Bits → NodePlace
place_asked ask = node_place ask.broker ask.node

-- the journal of the node's claims, which it takes alone
abbrev pub claims_journal : Service → NodePlace → OpenedJournal
claims_journal service place = record { choice = (node_journal_name service.file place.node, Own); HasFault = IsClaimsFault }

-- ---- what is served

-- The sessions that a node led, in their order, with units of its broker's blocks: it began with no block, these claims, and this door, which listened.
-- Each session was granted what the node drew, by tries that are those of its note; no two a unit in common; each unit that was granted is
-- claimed when they end, and was not when they began; and so says what a crash leaves at any moment from its grant on. A session that was
-- refused units was refused for the reason that it says. The journal is closed, and says all claims where no call of the disk failed.
pub record LedByNode {B L : Type 0} (link_tells : L → LinkState) (state : B → DiskState) (sessions patience : ℕ) (place : NodePlace)
    (jobs : VerifierJobs) (first : ClaimState B) (door : DoorState) (led : List (SessionNote L)) (door_failed memory_failed : Bool)
    (disk : B) (left : DoorState) : Type 0 where
  pub last : ClaimState B
  pub serves : ServesAsNode (ports_of link_tells state place.broker patience) jobs sessions (desk (starting place.node) first door [])
      left last door_failed memory_failed led
  pub once : GrantsNoUnitTwice jobs first.total led
  pub claimed : GrantsClaim first.claims last.claims led
  pub kept : ClaimsStay state first last
  pub journal : JournalSaysGrants (ports_of link_tells state place.broker patience) jobs (desk (starting place.node) first door []) last led
  pub causes : HaveCauses link_tells state jobs (desk {L = L} (starting place.node) first door []) left last led
  pub closed : disk ≡ last.disk
  pub durable : last.fault ≡ 0 → last.total < 2 ^ 64 - 1 → AreDurable state last

-- what a node grants with when it begins: no block, these claims, and this door, once it listens
abbrev pub first_desk : {B L : Type 0} → Service → NodePlace → ClaimState B → DoorChange → Desk B L
first_desk service place first door =
    desk (starting place.node) first (after_listen service.address service.options.timeout service.options.sessions door.old) []

-- The journal of the node's claims was opened at what it says, and the door listened at the address, once, with the patience that was asked for and
-- for so many sessions; and they were led.
pub record LeadsAsNode {B L : Type 0} (link_tells : L → LinkState) (state : B → DiskState) (service : Service) (place : NodePlace) (jobs : VerifierJobs)
    (led : List (SessionNote L)) (door_failed memory_failed : Bool) (journal : Change B) (door : DoorChange) : Type 0 where
  pub few : TakeFewUnits jobs
  pub first : ClaimState B
  pub opens : OpensJournal ((claims_journal service place).choice) (told_change state (change journal.old first.disk))
  pub since : (image : List ℕ) → (state journal.old).images_since (state journal.old).moment image → (state journal.old).images image
  pub recovered : (bytes : List ℕ) → (state journal.old).content ≡ Some bytes → SaysClaims first.total first.begin first.slots first.claims bytes
  pub begins : AreDurable state first
  pub whole : first.fault ≡ 0
  pub total : first.total ≡ jobs.first.task.file.params.total
  pub small : first.total < 2 ^ 64 - 1
  pub sessions : LedByNode link_tells state service.options.sessions service.options.timeout place jobs first
      (after_listen service.address service.options.timeout service.options.sessions door.old) led door_failed memory_failed journal.new door.new

-- the jobs of what was asked stand above all notes
pub record LeadsNodeFiles {B L : Type 0} (link_tells : L → LinkState) (state : B → DiskState) (service : Service) (place : NodePlace)
    (led : List (SessionNote L)) (door_failed memory_failed : Bool) (told : Option Files) (journal : Change B) (door : DoorChange) : Type 0 where
  pub jobs : VerifierJobs
  pub served : AreServeJobs told service jobs
  pub leads : LeadsAsNode link_tells state service place jobs led door_failed memory_failed journal door

-- sessions were led; their notes, in the order of their first units, have their lines written, and the status is theirs
pub record SaysNodeNotes {B L : Type 0} (link_tells : L → LinkState) (state : B → DiskState) (service : Service) (place : NodePlace)
    (notes : List (SessionNote L)) (journal : Change B) (door : DoorChange) (run : Effects) : Type 0 where
  pub door_failed : Bool
  pub memory_failed : Bool
  pub led : List (SessionNote L)
  pub leads : LeadsNodeFiles link_tells state service place led door_failed memory_failed run.shelf.old.told journal door
  pub same : IsPermutation led notes
  pub ordered : IsNonDecreasingBy (λ note. start_of note.granted) notes
  pub says : SaysService service.options.logs notes door_failed memory_failed run

-- what was served is handed back, exactly where the door listened, and said; or the line of a stop is written, which has its cause, and then
-- nothing on the shelf is changed
abbrev pub NodeServiceLines : {B L : Type 0} → (L → LinkState) → (B → DiskState) → Service → NodePlace → Part L → Change B → DoorChange → Effects
    → Type 0
NodeServiceLines link_tells state service place (Served notes) journal door run =
    SaysNodeNotes link_tells state service place notes.items journal door run
NodeServiceLines link_tells state service place Plain journal door run =
    SaysStop (StopsService (claims_journal service place) service run.shelf (told_change state journal) door) run
    × OnlyLoads (IsLoadedName service) run.shelf
NodeServiceLines link_tells state service place part journal door run = ⊥

-- ---- where nothing is refused and nothing fails

-- the files can be served, and the disk has the journal of the node's claims
pub record IsNodeServable (told : Option Files) (disk : DiskState) (service : Service) : Type 0 where
  pub files : HasServiceFiles told service
  pub journal : (jobs : VerifierJobs) → AreServeJobs told service jobs
      → HasClaims jobs.first.task.file.id jobs.first.task.file.params.total disk.content

-- a call failed: one of the shelf for a file that is loaded, one of the sink, the disk or the door, also to call the broker
abbrev pub HasNodeFailed : Service → DiskChange → DoorChange → Effects → Type 0
HasNodeFailed service disk door run =
    HasFailed (IsServeName service) run ⊎ Rose disk.old.faults disk.new.faults ⊎ DoorCallFailed door
    ⊎ Rose door.old.connect_faults door.new.connect_faults

-- no link of its tries failed
abbrev pub HasCalmTries : {L : Type 0} → (L → LinkState) → SessionNote L → Type 0
HasCalmTries {L} link_tells note = (made : Try L) → Contains note.tries.items made → ¬ Rose 0 (link_tells made.link).faults

-- memory aside, every session is accepted, or some was refused units since no block came that had them
abbrev pub IsNodeDone : {L : Type 0} → Part L → ℕ → Type 0
IsNodeDone {L} part status =
    ((status ≡ 0) × EachNote part (λ note. note.outcome ≡ Accepted))
    ⊎ ((status ≡ 1) × OfNotes part (λ notes. (note : SessionNote L) × Contains notes note × ((wants : ℕ) × (note.outcome ≡ NoBlock wants))))
    ⊎ (status ≡ 7)

-- Sessions are served with the provers that called where the door listened at the address, with units of blocks that the broker leased to the node and
-- which it claimed before, and what came of them is handed back and said; or nothing is handed back, and the line of a stop with its cause is
-- written. What the status says; that all is done where nothing is refused, nothing fails and all provers are honest, but for want of a block;
-- and that nothing but the files of the claim and of the verifier, and names of logs, if any, is asked of the shelf, and nothing but logs is
-- changed there.
pub record ServesNode {B L : Type 0} (link_tells : L → LinkState) (state : B → DiskState) (service : Service) (place : NodePlace) (part : Part L)
    (journal : Change B) (door : DoorChange) (run : Effects) : Type 0 where
  pub lines : NodeServiceLines link_tells state service place part journal door run
  pub means : ServiceMeans (claims_journal service place) service part (told_change state journal) door run
  pub done : IsNodeServable run.shelf.old.told (state journal.old) service → ¬ HasNodeFailed service (told_change state journal) door run
      → EachNote part (λ note. IsWithHonestProver link_tells run.shelf.old.told service note × HasCalmTries link_tells note)
      → IsNodeDone part run.status
  pub others : OtherNamesStay (IsLogName service.options.logs) run.shelf.old.told run.shelf.new.told
  pub asked : OnlyAsks (IsServeName service) run.shelf
