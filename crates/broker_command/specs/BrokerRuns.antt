-- `broker`: what it answers and says, and what it promises of its run.
use Rattle.std.specs.Prelude.{◌≡◌, ◌≢◌, ◌⊎◌, ◌+◌, ◌-◌, ◌≤◌, max, ℕ, List, [], ◌∷◌, All, AllPairs, Contains, length, Bool, false, Option, None, Some, IfSome, IsSomeAnd}
use Rattle.std.specs.List.{AllZip, sum_by}
use Rattle.zk_model.specs.Files.{VerifierFile}
use Rattle.zk_model.specs.declared.Side.TheVariants.{Verifier}
use Rattle.zk_port.specs.Counts.{Rose}
use Rattle.zk_port.specs.Disks.{DiskState}
use Rattle.zk_port.specs.Doors.{after_listen}
use Rattle.zk_port.specs.Files.{Files}
use Rattle.zk_port.specs.Links.{LinkState}
use Rattle.dealer_files.specs.Faults.{IsDealtFile}
use Rattle.lease_core.specs.Machine.{ceiling_for}
use Rattle.lease_words.specs.Calls.{AreGathered}
use Rattle.lease_words.specs.declared.pass.Pass.{Pass}
use Rattle.lease_store.specs.Ceilings.{SaysCeiling}
use Rattle.lease_store.specs.declared.LeaseFault.{LeaseFault}
use Rattle.lease_store.specs.declared.LeaseFault.TheVariants.{Device, Broken}
use Rattle.session_pool.specs.Doors.{TakesLinks}
use Rattle.session_pool.specs.Notes.{IsUnused}
use Rattle.broker_links.specs.Answers.{Asked}
use Rattle.broker_links.specs.declared.note.BrokerNote.{BrokerNote}
use Rattle.broker_links.specs.declared.note.BrokerOutcome.{BrokerOutcome}
use Rattle.broker_links.specs.declared.note.BrokerOutcome.TheVariants as ended
use Rattle.broker_links.specs.declared.reply.Reply.TheVariants as reply
use Rattle.broker_service.specs.Granted.{AreOneOrApart, IsMarkedFault, IsSafeBlock, IsToldBy, LiesBetween, block_in, fault_in, faults_met, out_in, units_for}
use Rattle.broker_service.specs.Left.{keeping_none}
use Rattle.broker_service.specs.Turns.{AreExchanges, Keeping}
use Rattle.command_words.specs.Words.{BrokerAsk}
use Rattle.file_commands.specs.Effects.{DoorChange, Effects, IsName, NameFailed, OnlyLoads, ShelfChange, SinkFailed}
use Rattle.file_commands.specs.Journals.{DiskChange, IsCeilingsFault, IsUntouched, JournalStop, KeepsCeiling, OnlyReads, own_journal}
use Rattle.file_commands.specs.Stops.{FileStop, HasText, IsOfStop, IsVerifierFileAt, ListenStop, PrintsMade, SaysStop, WritesAll}
use Rattle.file_commands.specs.declared.refusal.Refusal.{Refusal}
use Rattle.broker_command.specs.NoteLines.{brokered_status, brokered_text}

-- ---- why no link is taken

-- The journal of this file is not opened, and nothing is asked of the door; or the door does not listen. The journal is at most read.
pub record OpeningStop (ask : BrokerAsk) (file : VerifierFile) (disk : DiskChange) (door : DoorChange) (stop : Refusal) : Type 0 where
  pub reads : OnlyReads (own_journal ask.file) disk
  pub cause : (JournalStop (IsCeilingsFault file.id file.params.total disk.old) disk stop × (door.new ≡ door.old))
      ⊎ ListenStop ask.address ask.timeout door stop

-- The first of these: the verifier's file can't be had, and nothing is asked of the disk or the door; or a verifier's file stands there, and
-- its journal is not opened, or the door does not listen.
abbrev pub BrokerStop : BrokerAsk → ShelfChange → DiskChange → DoorChange → Refusal → Type 0
BrokerStop ask shelf disk door stop =
    (FileStop Verifier ask.file shelf stop × IsUntouched disk × (door.new ≡ door.old))
    ⊎ ((file : VerifierFile) × IsVerifierFileAt shelf.old.told ask.file file × OpeningStop ask file disk door stop)

-- ---- what is answered

-- The wants that were answered over the journal of this file. The door listened at the address, once, with the patience and for as many asks
-- as were asked for, and as many links were taken as there are notes. The journal was opened at the base that it says, and kept up to a
-- ceiling. The exchanges went one after another, by one pass that had not drawn, from a broker that keeps nothing of any node; each note tells
-- how its want was answered. Two Blocks, sent or lost, are the same or have no unit in common; a Block ends at or below a ceiling that was
-- stored; its units lie between the base and the ceiling, and within the total. A want is refused by the journal alone, which is marked then,
-- and fails in the lease of one want at most. An Out's place is at most the base plus the rounded counts of all other wants, and the ceiling
-- is the base, or at most the one for as many units as all wants asked for.
pub record AnswersWants {B L : Type 0} (link_tells : L → LinkState) (state : B → DiskState) (ask : BrokerAsk) (file : VerifierFile)
    (notes : List (BrokerNote L LeaseFault)) (door_failed memory_failed : Bool) (disk : DiskChange) (door : DoorChange) : Type 0 where
  pub taken : TakesLinks ask.asks (length notes) door_failed memory_failed
      (after_listen ask.address ask.timeout ask.asks door.old) door.new
  pub base : ℕ
  pub recovered : (bytes : List ℕ) → disk.old.content ≡ Some bytes → SaysCeiling file.id file.params.total base bytes
  pub ceiling : ℕ
  pub mark : ℕ
  pub kept : KeepsCeiling (own_journal ask.file) file.id file.params.total base ceiling mark disk
  pub first : Pass
  pub unused : IsUnused first
  pub asks : List (Asked LeaseFault)
  pub last : Keeping
  pub exchanges : AreExchanges link_tells state notes asks (keeping_none first) last
  pub gathered : AreGathered base ceiling mark (last.pass ∷ [])
  pub told : AllZip (λ note asked. IsToldBy note.outcome asked) notes asks
  pub once : AllPairs (λ a b. AreOneOrApart (block_in a) (block_in b)) asks
  pub safe : All (λ a. IfSome (block_in a) (IsSafeBlock state base file.params.total)) asks
  pub between : All (λ a. IfSome (block_in a) (LiesBetween base ceiling)) asks
  pub marked : All (λ a. IfSome (fault_in a) (IsMarkedFault mark)) asks
  pub one_fault : faults_met asks ≤ 1
  pub out : All (λ a. IfSome (out_in a) (λ o. o.at ≤ base + (sum_by units_for asks - units_for a))) asks
  pub most : ceiling ≤ max base (ceiling_for file.params.total (base + sum_by units_for asks))

-- they were answered over the verifier's file that stands under the name
pub record AnswersFile {B L : Type 0} (link_tells : L → LinkState) (state : B → DiskState) (ask : BrokerAsk)
    (notes : List (BrokerNote L LeaseFault)) (door_failed memory_failed : Bool) (told : Option Files) (disk : DiskChange) (door : DoorChange)
    : Type 0 where
  pub file : VerifierFile
  pub stands : IsVerifierFileAt told ask.file file
  pub wants : AnswersWants link_tells state ask file notes door_failed memory_failed disk door

-- and the shelf is as it was, the lines of the notes are written, in the order of the links, and the status is theirs
pub record SaysNotes {B L : Type 0} (link_tells : L → LinkState) (state : B → DiskState) (ask : BrokerAsk)
    (notes : List (BrokerNote L LeaseFault)) (disk : DiskChange) (door : DoorChange) (run : Effects) : Type 0 where
  pub door_failed : Bool
  pub memory_failed : Bool
  pub answers : AnswersFile link_tells state ask notes door_failed memory_failed run.shelf.old.told disk door
  pub quiet : run.shelf.new ≡ run.shelf.old
  pub prints : PrintsMade (brokered_status notes door_failed memory_failed) (brokered_text notes door_failed) run.status run.sink

-- notes are handed back, exactly where the door listened, and said; or the line of a stop is written, which has its cause
abbrev pub BrokerLines : {B L : Type 0} → (L → LinkState) → (B → DiskState) → BrokerAsk → Option (List (BrokerNote L LeaseFault))
    → DiskChange → DoorChange → Effects → Type 0
BrokerLines link_tells state ask (Some notes) disk door run = SaysNotes link_tells state ask notes disk door run
BrokerLines link_tells state ask None disk door run = SaysStop (BrokerStop ask run.shelf disk door) run

-- as many links were taken as are wanted, or all that the door had
abbrev pub TakesAll : {L : Type 0} → BrokerAsk → List (BrokerNote L LeaseFault) → DoorChange → Type 0
TakesAll ask notes door = (length notes ≡ ask.asks) ⊎ (door.new.left ≡ 0)

-- ---- what the status says

-- a call of the door failed: to listen, or to give the next link
abbrev pub DoorCallFailed : DoorChange → Type 0
DoorCallFailed door =
    Rose door.old.listen_faults door.new.listen_faults ⊎ Rose door.old.next_faults door.new.next_faults

-- how exchanges end: by a Block, by an Out, by no want, or by the journal, which refused
abbrev pub IsGranted : BrokerOutcome LeaseFault → Type 0
IsGranted (ended.Answered want (reply.Block block)) = Unit {0}
IsGranted outcome = ⊥

abbrev pub IsOut : BrokerOutcome LeaseFault → Type 0
IsOut (ended.Answered want (reply.Out out)) = Unit {0}
IsOut outcome = ⊥

abbrev pub LacksWant : BrokerOutcome LeaseFault → Type 0
LacksWant (ended.PeerEnded at) = Unit {0}
LacksWant (ended.BadFrame place) = Unit {0}
LacksWant outcome = ⊥

abbrev pub IsRefused : BrokerOutcome LeaseFault → Type 0
IsRefused (ended.Refused Device) = Unit {0}
IsRefused (ended.Refused (Broken first)) = Unit {0}
IsRefused outcome = ⊥

-- one of the exchanges ended so
abbrev pub SomeEnds : {L : Type 0} → (BrokerOutcome LeaseFault → Type 0) → List (BrokerNote L LeaseFault) → Type 0
SomeEnds {L} Ends notes = (note : BrokerNote L LeaseFault) × Contains notes note × Ends note.outcome

-- the link of one of them failed
abbrev pub SomeLinkFailed : {L : Type 0} → (L → LinkState) → List (BrokerNote L LeaseFault) → Type 0
SomeLinkFailed {L} link_tells notes = (note : BrokerNote L LeaseFault) × Contains notes note × Rose 0 (link_tells note.link).faults

-- every want was granted units, all lines are written, and no call of the door or the sink failed
pub record AllGranted {L : Type 0} (notes : List (BrokerNote L LeaseFault)) (door : DoorChange) (run : Effects) : Type 0 where
  pub each : All (λ note. IsGranted note.outcome) notes
  pub lines : WritesAll (brokered_text notes false) run.sink
  pub listen_quiet : door.new.listen_faults ≡ door.old.listen_faults
  pub next_quiet : door.new.next_faults ≡ door.old.next_faults

-- Once the door listened: 0 where every want was granted units; 1 where a node ended or sent another frame; 4 where the door, the sink or the
-- link of an exchange failed; 5 where the journal did; 6 where no units were left for a want; 7: memory
abbrev pub NotesMean : {L : Type 0} → (L → LinkState) → List (BrokerNote L LeaseFault) → DiskChange → DoorChange → Effects → Type 0
NotesMean link_tells notes disk door run =
    ((run.status ≡ 0) × AllGranted notes door run)
    ⊎ ((run.status ≡ 1) × SomeEnds LacksWant notes)
    ⊎ ((run.status ≡ 4) × (DoorCallFailed door ⊎ SinkFailed run.sink ⊎ SomeLinkFailed link_tells notes))
    ⊎ ((run.status ≡ 5) × Rose disk.old.faults disk.new.faults × SomeEnds IsRefused notes)
    ⊎ ((run.status ≡ 6) × SomeEnds IsOut notes)
    ⊎ (run.status ≡ 7)

-- before that, that of a stop which has its cause, or 7
abbrev pub BrokerMeans : {L : Type 0} → (L → LinkState) → BrokerAsk → Option (List (BrokerNote L LeaseFault)) → DiskChange → DoorChange
    → Effects → Type 0
BrokerMeans link_tells ask (Some notes) disk door run = NotesMean link_tells notes disk door run
BrokerMeans link_tells ask None disk door run =
    IsOfStop (BrokerStop ask run.shelf disk door) run.status ⊎ (run.status ≡ 7)

-- ---- where nothing is refused and nothing fails

-- a journal of ceilings stands in the content, of this id and total
pub record HasCeilings (id : List ℕ) (total : ℕ) (content : Option (List ℕ)) : Type 0 where
  pub bytes : List ℕ
  pub known : content ≡ Some bytes
  pub base : ℕ
  pub says : SaysCeiling id total base bytes

-- a shelf that tells has a verifier's file, and the disk has its journal
pub record IsBrokerable (told : Option Files) (disk : DiskState) (ask : BrokerAsk) : Type 0 where
  pub tells : told ≢ None
  pub file : HasText told ask.file (IsDealtFile Verifier)
  pub journal : (file : VerifierFile) → IsVerifierFileAt told ask.file file → HasCeilings file.id file.params.total disk.content

-- a call failed: one of the shelf for the file, one of the sink, the disk or the door, or one of the link of an exchange
abbrev pub HasBrokerFailed : {L : Type 0} → (L → LinkState) → BrokerAsk → Option (List (BrokerNote L LeaseFault)) → DiskChange → DoorChange
    → Effects → Type 0
HasBrokerFailed link_tells ask notes disk door run =
    NameFailed ask.file run.shelf ⊎ SinkFailed run.sink ⊎ Rose disk.old.faults disk.new.faults ⊎ DoorCallFailed door
    ⊎ IsSomeAnd notes (SomeLinkFailed link_tells)

-- memory aside, every want was granted units, or the status is 1 by a link on which none came, or 6 by a want for which no units were left
abbrev pub IsBrokerDone : {L : Type 0} → Option (List (BrokerNote L LeaseFault)) → ℕ → Type 0
IsBrokerDone notes status =
    ((status ≡ 0) × IsSomeAnd notes (All (λ note. IsGranted note.outcome)))
    ⊎ ((status ≡ 1) × IsSomeAnd notes (SomeEnds LacksWant))
    ⊎ ((status ≡ 6) × IsSomeAnd notes (SomeEnds IsOut))
    ⊎ (status ≡ 7)

-- ---- all together

-- The wants of the nodes that called are answered where the door listened at the address, over the file's journal, and what came of them is
-- handed back and said; or nothing is handed back, and the line of a stop with its cause is written. Once it listened, all links were taken,
-- unless the door failed or the status is 7. What the status says; that all is done where nothing is refused and nothing fails; and that
-- nothing but the verifier's file is asked of the shelf, where all files are as they were.
pub record ServesAsBroker {B L : Type 0} (link_tells : L → LinkState) (state : B → DiskState) (ask : BrokerAsk)
    (notes : Option (List (BrokerNote L LeaseFault))) (disk : DiskChange) (door : DoorChange) (run : Effects) : Type 0 where
  pub lines : BrokerLines link_tells state ask notes disk door run
  pub all : IfSome notes (λ taken. TakesAll ask taken door ⊎ Rose door.old.next_faults door.new.next_faults ⊎ (run.status ≡ 7))
  pub statuses : (run.status ≡ 0) ⊎ (run.status ≡ 1) ⊎ (run.status ≡ 3) ⊎ (run.status ≡ 4) ⊎ (run.status ≡ 5) ⊎ (run.status ≡ 6)
      ⊎ (run.status ≡ 7)
  pub means : BrokerMeans link_tells ask notes disk door run
  pub done : IsBrokerable run.shelf.old.told disk.old ask → ¬ HasBrokerFailed link_tells ask notes disk door run
      → IsBrokerDone notes run.status
  pub loads : OnlyLoads (IsName ask.file) run.shelf
