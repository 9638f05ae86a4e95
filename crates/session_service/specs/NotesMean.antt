-- What the status of a service says, once its door listened.
use Rattle.std.specs.Prelude.{◌≡◌, ◌⊎◌, ℕ, List, All, Bool, true, false, Option}
use Rattle.zk_port.specs.Counts.{Rose}
use Rattle.session_verifier.specs.NoteLines.{IsServedText, has_status, start_of}
use Rattle.session_verifier.specs.ServiceLogs.{IsLogName, KeepsLogs, SaysService, no_faults}
use Rattle.session_verifier.specs.declared.note.SessionNote.{SessionNote}
use Rattle.session_verifier.specs.declared.note.VerifierOutcome.TheVariants.{Accepted}
use Rattle.file_commands.specs.Effects.{DoorChange, Effects, SinkFailed, SomeFailed}
use Rattle.file_commands.specs.Journals.{DiskChange}
use Rattle.file_commands.specs.Stops.{WritesAll}

-- a call of the door that a service makes failed: to listen, or to give the next link
abbrev pub DoorCallFailed : DoorChange → Type 0
DoorCallFailed door =
    Rose door.old.listen_faults door.new.listen_faults ⊎ Rose door.old.next_faults door.new.next_faults

-- every session is accepted, all lines are written, all logs are kept, and no call of the door or the sink failed
pub record AllAccepted {L : Type 0} (prefix : Option (List ℕ)) (notes : List (SessionNote L)) (door : DoorChange) (run : Effects) : Type 0 where
  pub each : All (λ note. note.outcome ≡ Accepted) notes
  pub lines : (text : List ℕ) × IsServedText notes false text × WritesAll text run.sink
  pub logs : KeepsLogs prefix notes run.shelf no_faults
  pub listen_quiet : door.new.listen_faults ≡ door.old.listen_faults
  pub next_quiet : door.new.next_faults ≡ door.old.next_faults

-- 0 where every session is accepted; 1 where one was rejected, or its peer ended, sent another frame or another hello; 4 where the door, the
-- shelf, the sink or the link of a session failed; 5 where the journal did; 6 where the units of one were wanting; 7: memory
abbrev pub NotesMean : {L : Type 0} → Option (List ℕ) → List (SessionNote L) → DiskChange → DoorChange → Effects → Type 0
NotesMean prefix notes disk door run =
    ((run.status ≡ 0) × AllAccepted prefix notes door run)
    ⊎ ((run.status ≡ 1) × (has_status notes 1 ≡ true))
    ⊎ ((run.status ≡ 4) × (DoorCallFailed door ⊎ SomeFailed (IsLogName prefix) run.shelf ⊎ SinkFailed run.sink
    ⊎ (has_status notes 4 ≡ true)))
    ⊎ ((run.status ≡ 5) × Rose disk.old.faults disk.new.faults × (has_status notes 5 ≡ true))
    ⊎ ((run.status ≡ 6) × (has_status notes 6 ≡ true))
    ⊎ (run.status ≡ 7)
