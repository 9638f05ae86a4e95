-- Journals that are opened, and sessions over them.
use Rattle.std.proofs.Common.{◌≡◌, ℕ, Bool, List, length, All, Some, IfSome}
use Rattle.std.specs.List.{AllPairs}
use Rattle.zk_port.specs.Disks.{DiskState}
use Rattle.zk_port.specs.Doors.{after_listen}
use Rattle.lease_store.specs.Ceilings.{SaysCeiling}
use Rattle.session_pool.specs.Doors.{TakesLinks}
use Rattle.session_pool.specs.Notes.{AreGrantsApart, IsLeft, IsNoteOf, IsRefusedAmong}
use Rattle.session_verifier.specs.Outcomes.{grant_fault}
use Rattle.session_verifier.specs.declared.note.SessionNote.{SessionNote}
use Rattle.file_commands.specs.Journals.{OpensJournal, disk_change, own_journal}
use Rattle.file_commands.specs.Effects.{DoorChange}
use Rattle.file_commands.proofs.Journals.{keeps_ceiling}
use Rattle.session_service.specs.ServiceRuns.{LeadsSessions, Place, Sessions}

-- the sessions that were led over their file's journal
pub leads_sessions : {L : Type 0} (at : Place) (led : Sessions L) (notes : List (SessionNote L))
    (door_failed memory_failed : Bool) (old mid new : DiskState) (door : DoorChange) (base : ℕ)
    → ((image : List ℕ) → old.images_since old.moment image → old.images image)
    → OpensJournal (own_journal at.file) (disk_change old mid)
    → ((bytes : List ℕ) → old.content ≡ Some bytes → SaysCeiling led.id led.total base bytes)
    → All (IsNoteOf led.is_note) notes
    → TakesLinks at.options.sessions (length notes) door_failed memory_failed
    (after_listen at.address at.options.timeout at.options.sessions door.old) door.new
    → AllPairs (λ (one other : SessionNote L). AreGrantsApart one.granted other.granted) notes
    → (fresh : Type 0) → fresh → IsLeft fresh mid new led.id base led.total at.options.workers led.size (λ (note : SessionNote L). note.granted)
    (λ (note : SessionNote L). grant_fault note.outcome) notes
    → All (λ note. IfSome (grant_fault note.outcome) (IsRefusedAmong led.size base led.total notes note)) notes
    → LeadsSessions at led notes door_failed memory_failed (disk_change old new) door
leads_sessions {L} at led notes door_failed memory_failed old mid new door base only_now opens recovered each taken apart fresh unused left refused = record {
  each = each;
  taken = taken;
  base = base;
  recovered = recovered;
  ceiling = left.closed.ceiling;
  mark = left.closed.mark;
  kept = keeps_ceiling old mid new (own_journal at.file) led.id led.total base left.passes only_now opens left.closed;
  apart = apart;
  spans = left.spans;
  within = left.within;
  most = left.most unused;
  marked = left.marked;
  told = left.told;
  once = left.once;
  refused = refused;
  passes = left.passes;
  workers = left.count;
  gathered = left.closed.gathered;
}
