-- Sessions of a verifier with whoever calls at an address, over the journal of its file: why none is led, and what was led.
use Rattle.std.specs.Prelude.{◌≡◌, ◌⊎◌, ◌+◌, ◌≤◌, max, ℕ, List, All, AllPairs, length, Bool, Option, Some, IfSome, Result, String, string_bytes}
use Rattle.std.specs.Borrow.{Bor}
use Rattle.std.specs.List.{sum_by}
use Rattle.std.specs.declared.alloc.Global.{Global}
use Rattle.zk_model.specs.declared.Span.{Span}
use Rattle.zk_port.specs.Doors.{after_listen}
use Rattle.lease_core.specs.Machine.{ceiling_for}
use Rattle.lease_words.specs.Calls.{AreGathered}
use Rattle.lease_words.specs.declared.pass.Pass.{Pass}
use Rattle.lease_store.specs.Ceilings.{SaysCeiling}
use Rattle.lease_store.specs.declared.grantor.GrantFault.{GrantFault}
use Rattle.session_pool.specs.Doors.{TakesLinks}
use Rattle.session_pool.specs.Notes.{AreGrantsApart, IsBetween, IsMarked, IsNoteOf, IsRefusedAmong, TellsMark, faults_met}
use Rattle.session_verifier.specs.Outcomes.{grant_fault}
use Rattle.session_verifier.specs.declared.note.SessionNote.{SessionNote}
use Rattle.command_words.specs.Commands.{named_options}
use Rattle.command_words.specs.Words.{ServeOptions}
use Rattle.file_commands.specs.Effects.{DoorChange}
use Rattle.file_commands.specs.Journals.{DiskChange, IsCeilingsFault, JournalStop, KeepsCeiling, OnlyReads, own_journal}
use Rattle.file_commands.specs.Stops.{ListenStop}
use Rattle.file_commands.specs.declared.refusal.Refusal.{Refusal}
use Rattle.session_service.specs.declared.service.ServicePlace.{ServicePlace}

-- where sessions are led: the address, the name of the file whose journal has their units, and how
pub record Place : Type 0 where
  pub address : List ℕ
  pub file : List ℕ
  pub options : ServeOptions

abbrev pub place : List ℕ → List ℕ → ServeOptions → Place
place address file options = record { address = address; file = file; options = options }

abbrev pub place_of : ServicePlace → Place
place_of given = place given.address.now given.file.now (named_options given.options.now)

-- what is led: over a file of this id and total, by its note how many units a session takes, and what the note says of it
pub record Sessions (L : Type 0) : Type 1 where
  pub id : List ℕ
  pub total : ℕ
  pub size : SessionNote L → ℕ
  pub is_note : Option (Result Span GrantFault) → SessionNote L → Type 0

-- by these
abbrev pub sessions_by : {L : Type 0} → List ℕ → ℕ → (SessionNote L → ℕ) → (Option (Result Span GrantFault) → SessionNote L → Type 0) → Sessions L
sessions_by id total size is_note = record { id = id; total = total; size = size; is_note = is_note }

-- Why no session is led: the journal is not opened, and nothing is asked of the door; or the door does not listen. The journal is at most
-- read.
abbrev pub StopsListening : Place → List ℕ → ℕ → DiskChange → DoorChange → Refusal → Type 0
StopsListening at id total disk door stop = OnlyReads (own_journal at.file) disk
    × ((JournalStop (IsCeilingsFault id total disk.old) disk stop × (door.new ≡ door.old))
    ⊎ ListenStop at.address at.options.timeout door stop)

-- The sessions that were led. The door listened at the address, once, with the patience that was asked for and for so many sessions, and as
-- many links were taken as there are notes. The file's journal was opened at the base that it says, and kept. Granted spans have the units
-- of their note's session, are apart, lie between the base and a ceiling that every image of the disk recovers, and end within the total. A
-- journal is said to have failed only where a call of the disk failed; and units to be missing only where those of the other sessions leave
-- too few. There were as many workers as were asked for, each with a pass, and what these drew tiles from the base on.
pub record LeadsSessions {L : Type 0} (at : Place) (led : Sessions L) (notes : List (SessionNote L)) (door_failed memory_failed : Bool)
    (disk : DiskChange) (door : DoorChange) : Type 0 where
  pub each : All (IsNoteOf led.is_note) notes
  pub taken : TakesLinks at.options.sessions (length notes) door_failed memory_failed
      (after_listen at.address at.options.timeout at.options.sessions door.old) door.new
  pub base : ℕ
  pub recovered : (bytes : List ℕ) → disk.old.content ≡ Some bytes → SaysCeiling led.id led.total base bytes
  pub ceiling : ℕ
  pub mark : ℕ
  pub kept : KeepsCeiling (own_journal at.file) led.id led.total base ceiling mark disk
  pub apart : AllPairs (λ one other. AreGrantsApart one.granted other.granted) notes
  pub spans : All (λ note. IsBetween (led.size note) base ceiling note.granted) notes
  pub within : All (λ note. IfSome note.granted (λ span. span.end ≤ led.total)) notes
  pub most : ceiling ≤ max base (ceiling_for led.total (base + sum_by led.size notes))
  pub marked : All (λ note. IsMarked mark (grant_fault note.outcome)) notes
  pub told : All (λ note. TellsMark mark (grant_fault note.outcome)) notes
  pub once : faults_met (λ note. grant_fault note.outcome) notes ≤ 1
  pub refused : All (λ note. IfSome (grant_fault note.outcome) (IsRefusedAmong led.size base led.total notes note)) notes
  -- the passes of the workers, one for each, and what they drew
  pub passes : List Pass
  pub workers : length passes ≡ at.options.workers
  pub gathered : AreGathered base ceiling mark passes
