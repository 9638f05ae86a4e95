-- The logs of sessions that are kept, and what is said of the sessions.
use Rattle.std.specs.Prelude.{◌≡◌, ◌≢◌, ◌⊎◌, ◌||◌, ◌++◌, ℕ, List, Bool, true, false, All, AllPairs, codes, map, Option, IfSome, IsSomeAnd}
use Rattle.std.specs.Fmt.{decimal}
use Rattle.zk_model.specs.declared.Side.{Side}
use Rattle.zk_port.specs.Changes.{change}
use Rattle.zk_port.specs.Files.{Files, StandsAs}
use Rattle.zk_port.specs.Shelves.{ShelfState}
use Rattle.zk_port.specs.Sinks.{SinkState}
use Rattle.session_verifier.specs.declared.note.SessionNote.{SessionNote}
use Rattle.session_verifier.specs.declared.service_logs.LogFaults.{LogFaults}
use Rattle.session_verifier.specs.NoteLines.{IsServedText, failures, served_status}
use Rattle.file_commands.specs.Effects.{ShelfChange, CountsStay, Effects, IsName, NameFailed, OnlyStores, SomeFailed}
use Rattle.file_commands.specs.Stops.{Prints}

-- the name of a log: what the words say that names begin with, a dot, and the first unit
abbrev pub log_name : List ℕ → ℕ → List ℕ
log_name prefix start = prefix ++ codes "." ++ decimal start

abbrev pub IsLogName : Option (List ℕ) → List ℕ → Type 0
IsLogName prefix name = IsSomeAnd prefix (λ front. (start : ℕ) × (name ≡ log_name front start))

-- the bytes that are stored of a log
abbrev pub log_bytes : List (Side × ℕ) → List ℕ
log_bytes log = map (λ entry. entry.1) log

-- where a shelf tells, the log of a session that was granted units stands under its name
abbrev pub HasLog : {L : Type 0} → List ℕ → Option Files → SessionNote L → Type 0
HasLog prefix told note = IfSome note.granted (λ span. StandsAs told (log_name prefix span.start) (log_bytes note.log))

-- or a call for it failed, or memory was missing
abbrev pub KeepsLog : {L : Type 0} → List ℕ → ShelfChange → Bool → SessionNote L → Type 0
KeepsLog prefix shelf lacked note = IfSome note.granted (λ span.
    StandsAs shelf.new.told (log_name prefix span.start) (log_bytes note.log)
    ⊎ NameFailed (log_name prefix span.start) shelf ⊎ (lacked ≡ true))

-- no two logs have one name
abbrev pub HaveApartNames : {L : Type 0} → Option (List ℕ) → List (SessionNote L) → Type 0
HaveApartNames prefix notes = IfSome prefix (λ front. AllPairs (λ one other. IfSome one.granted (λ s. IfSome other.granted
    (λ t. log_name front s.start ≢ log_name front t.start))) notes)

-- Calls for logs, of which one failed, or none: nothing but names of logs was asked for, and no other file is changed.
pub record TriesLogs (prefix : Option (List ℕ)) (shelf : ShelfChange) (failed : Bool) : Type 0 where
  pub kept : OnlyStores (IsLogName prefix) shelf
  pub cause : failed ≡ true → SomeFailed (IsLogName prefix) shelf
  pub quiet : failed ≡ false → CountsStay shelf

-- The logs of these sessions are kept: of each that was granted units the log stands under its name, or a call for it failed, or memory was
-- missing; where no call failed and memory was not missing, all stand.
pub record KeepsLogs {L : Type 0} (prefix : Option (List ℕ)) (notes : List (SessionNote L)) (shelf : ShelfChange)
    (faults : LogFaults) : Type 0 where
  pub tried : TriesLogs prefix shelf faults.failed
  pub each : IfSome prefix (λ front. All (KeepsLog front shelf faults.lacked) notes)
  pub all : faults.failed ≡ false → faults.lacked ≡ false → IfSome prefix (λ front. All (HasLog front shelf.new.told) notes)

-- no call for a log failed, and memory was not missing for one
abbrev pub no_faults : LogFaults
no_faults = record { failed = false; lacked = false }

-- one log is stored under its name, or is seen to stand there, after what became of others
pub record TriesLog (name bytes : List ℕ) (shelf : ShelfChange) (before now : LogFaults) : Type 0 where
  pub stores : OnlyStores (IsName name) shelf
  pub failed : now.failed ≡ true → (before.failed ≡ true) ⊎ NameFailed name shelf
  pub quiet : now.failed ≡ false → CountsStay shelf
  pub still : now.failed ≡ false → before.failed ≡ false
  pub enough : now.lacked ≡ false → before.lacked ≡ false
  pub stands : StandsAs shelf.new.told name bytes ⊎ NameFailed name shelf ⊎ (now.lacked ≡ true)
  pub sure : now.failed ≡ false → now.lacked ≡ false → StandsAs shelf.new.told name bytes

-- What stands behind the lock of one who keeps logs: the shelf, of which nothing but logs was asked since the start, and what lines are
-- said to, where they are.
pub record IsDesk (prefix : Option (List ℕ)) (follows : Bool) (first now : ShelfState) (said says : SinkState) (failed : Bool)
    : Type 0 where
  pub tried : TriesLogs prefix (change first now) failed
  pub quiet : follows ≡ false → says ≡ said

-- The logs of these sessions are kept, their lines are written, and the status is theirs; or memory was missing for the lines.
pub record SaysService {L : Type 0} (prefix : Option (List ℕ)) (notes : List (SessionNote L)) (door_failed memory_failed : Bool)
    (run : Effects) : Type 0 where
  pub faults : LogFaults
  pub logs : KeepsLogs prefix notes run.shelf faults
  pub lines : ((text : List ℕ) × IsServedText notes door_failed text × Prints
      (served_status notes (failures door_failed faults.failed (memory_failed || faults.lacked)))
      text run.status run.sink)
      ⊎ ((run.status ≡ 7) × (run.sink.new ≡ run.sink.old))
