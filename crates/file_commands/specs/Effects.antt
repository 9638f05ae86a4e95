-- What a run does: its status, and what becomes of the shelf, the sink and the door.
use Rattle.std.specs.Prelude.{◌≡◌, ◌⊎◌, ◌≤◌, ℕ, List, Option, None, Some, IsSomeAnd}
use Rattle.zk_port.specs.Changes.{Change}
use Rattle.zk_port.specs.Counts.{Rose}
use Rattle.zk_port.specs.Doors.{DoorState}
use Rattle.zk_port.specs.Files.{Files}
use Rattle.zk_port.specs.Shelves.{ShelfState}
use Rattle.zk_port.specs.Sinks.{SinkState}

-- the shelf, the sink and the door, before and after
abbrev pub ShelfChange : Type 0
ShelfChange = Change ShelfState

abbrev pub SinkChange : Type 0
SinkChange = Change SinkState

abbrev pub DoorChange : Type 0
DoorChange = Change DoorState

-- a call for this name failed
abbrev pub NameFailed : List ℕ → ShelfChange → Type 0
NameFailed name shelf = Rose (shelf.old.faults_of name) (shelf.new.faults_of name)

-- a call for one of these names failed
abbrev pub SomeFailed : (List ℕ → Type 0) → ShelfChange → Type 0
SomeFailed IsNamed shelf = (name : List ℕ) × IsNamed name × NameFailed name shelf

-- a call of the sink failed
abbrev pub SinkFailed : SinkChange → Type 0
SinkFailed sink = Rose sink.old.faults sink.new.faults

-- this one name
abbrev pub IsName : List ℕ → List ℕ → Type 0
IsName name other = other ≡ name

-- all counts of the shelf are as they were
pub record CountsStay (shelf : ShelfChange) : Type 0 where
  pub all : shelf.new.faults ≡ shelf.old.faults
  pub each : (name : List ℕ) → shelf.new.faults_of name ≡ shelf.old.faults_of name

-- No count falls, and all are as they were, unless that of one of these names rose. So no other file is asked for: a
-- call for it may fail, and need not raise one of these.
pub record OnlyAsks (IsNamed : List ℕ → Type 0) (shelf : ShelfChange) : Type 0 where
  pub later : (other : List ℕ) → shelf.old.faults_of other ≤ shelf.new.faults_of other
  pub counts : SomeFailed IsNamed shelf ⊎ CountsStay shelf

-- only these are asked for, and all files are as they were
pub record OnlyLoads (IsNamed : List ℕ → Type 0) (shelf : ShelfChange) : Type 0 where
  pub told : shelf.new.told ≡ shelf.old.told
  pub asked : OnlyAsks IsNamed shelf

-- all names but these have what they had
abbrev pub OtherNamesStay : (List ℕ → Type 0) → Option Files → Option Files → Type 0
OtherNamesStay IsNamed None new = new ≡ None
OtherNamesStay IsNamed (Some old) new =
    IsSomeAnd new (λ files. (other : List ℕ) → ¬ IsNamed other → files other ≡ old other)

-- only these are asked for, and no other file is changed
pub record OnlyStores (IsNamed : List ℕ → Type 0) (shelf : ShelfChange) : Type 0 where
  pub others : OtherNamesStay IsNamed shelf.old.told shelf.new.told
  pub asked : OnlyAsks IsNamed shelf

-- the status that it answers, and what becomes of the shelf and the sink
pub record Effects : Type 0 where
  pub status : ℕ
  pub shelf : ShelfChange
  pub sink : SinkChange

abbrev pub effects : ℕ → ShelfChange → SinkChange → Effects
effects status shelf sink = record { status = status; shelf = shelf; sink = sink }

-- a call failed: one for one of these names, or one of the sink
abbrev pub HasFailed : (List ℕ → Type 0) → Effects → Type 0
HasFailed IsNamed run = SomeFailed IsNamed run.shelf ⊎ SinkFailed run.sink

-- memory aside, all is done
abbrev pub IsDone : ℕ → Type 0
IsDone status = (status ≡ 0) ⊎ (status ≡ 7)
