-- A run of the program: what it does, and what it hands back.
use Rattle.std.specs.Prelude.{ℕ, List, All}
use Rattle.zk_port.specs.Changes.{Change, change}
use Rattle.zk_port.specs.Disks.{DiskState}
use Rattle.zk_port.specs.Doors.{DoorState}
use Rattle.zk_port.specs.Links.{LinkState}
use Rattle.zk_port.specs.Shelves.{ShelfState}
use Rattle.session_verifier.specs.declared.note.SessionNote.{SessionNote}
use Rattle.file_commands.specs.Effects.{DoorChange, Effects, SinkChange, effects}
use Rattle.file_commands.specs.Journals.{DiskChange, disk_change}
use Rattle.zk_cli.specs.declared.finish.Part.{Part}
use Rattle.zk_cli.specs.declared.finish.Part.TheVariants.{Served}

-- this holds of the sessions that were served, if any are handed back; and of each of them
abbrev pub OfNotes : {L : Type 0} → Part L → (List (SessionNote L) → Type 0) → Type 0
OfNotes (Served notes) Holds = Holds notes.items
OfNotes part Holds = Unit {0}

abbrev pub EachNote : {L : Type 0} → Part L → (SessionNote L → Type 0) → Type 0
EachNote part Holds = OfNotes part (λ notes. All Holds notes)

-- what a disk tells before and after a run
abbrev pub told_change : {B : Type 0} → (B → DiskState) → Change B → DiskChange
told_change state journal = disk_change (state journal.old) (state journal.new)

-- A run of the program: what it does, what it hands back, what the door tells before and after it, and what a link
-- and a disk tell; and the files, the disk and the door themselves.
pub record Run (F L B D : Type 0) : Type 1 where
  pub effects : Effects
  pub part : Part L
  pub door : DoorChange
  pub link_tells : L → LinkState
  pub disk_tells : B → DiskState
  pub files : Change F
  pub journal : Change B
  pub links : Change D

abbrev pub run_of : {F L B D : Type 0} → (F → ShelfState) → (D → DoorState) → (L → LinkState) → (B → DiskState) → ℕ → Part L
    → Change F → SinkChange → Change B → Change D → Run F L B D
run_of shelf_tells door_tells link_tells disk_tells status part files sink journal links = record {
  effects = effects status (change (shelf_tells files.old) (shelf_tells files.new)) sink;
  part = part;
  door = change (door_tells links.old) (door_tells links.new);
  link_tells = link_tells;
  disk_tells = disk_tells;
  files = files;
  journal = journal;
  links = links;
}
