-- Journals that are opened, or refused, and sessions over them.
use Rattle.std.proofs.Common.{◌≡◌, ℕ, Bool, List, length, ap, ◌∙◌, inl, inr, All, Some, IfSome}
use Rattle.std.specs.List.{AllPairs}
use Rattle.zk_model.specs.Files.{VerifierFile}
use Rattle.zk_port.specs.Disks.{DiskState}
use Rattle.zk_port.specs.Doors.{after_listen}
use Rattle.zk_port.specs.Links.{LinkState}
use Rattle.lease_store.specs.Ceilings.{SaysCeiling}
use Rattle.session_core.specs.Jobs.{VerifierJob, VerifierJobs}
use Rattle.session_pool.specs.Doors.{TakesLinks}
use Rattle.session_pool.specs.Notes.{AreGrantsApart, IsLeft, IsNoteOf, IsRefusedAmong}
use Rattle.session_verifier.specs.Outcomes.{grant_fault}
use Rattle.session_verifier.specs.Sessions.{IsAnsweredNote}
use Rattle.session_verifier.specs.declared.note.SessionNote.{SessionNote}
use Rattle.claim_files.specs.Services.{Service}
use Rattle.file_commands.specs.Journals.{DiskChange, JournalStop, OpensJournal, OnlyReads, disk_change, own_journal}
use Rattle.file_commands.specs.Effects.{DoorChange}
use Rattle.file_commands.proofs.Journals.{keeps_ceiling, opened_is_read}
use Rattle.zk_cli.specs.ServeRuns.{TakeFewUnits, LeadsJobs, OpenedJournal, StopsOpening, units_of_note}
use Rattle.file_commands.specs.Stops.{ListenStop}
use Rattle.file_commands.specs.declared.refusal.Refusal.{Refusal}
use Rattle.file_commands.specs.declared.refusal.Refusal.TheVariants as stop

-- the file of the first job
pub first_file : (jobs : VerifierJobs) (job : VerifierJob) (file : VerifierFile) → file ≡ job.task.file → job ≡ jobs.first → file ≡ jobs.first.task.file
first_file jobs job file at is = at ∙ ap (λ (j : VerifierJob). j.task.file) is

-- no session is opened where the journal is not
pub lacks_journal : (journal : OpenedJournal) (service : Service) (jobs : VerifierJobs) (disk : DiskChange) (door : DoorChange) (why : Refusal)
    → TakeFewUnits jobs → OnlyReads journal.choice disk
    → JournalStop (journal.HasFault jobs.first.task.file.id jobs.first.task.file.params.total disk.old) disk why → door.new ≡ door.old
    → StopsOpening journal service jobs disk door why
lacks_journal journal service jobs disk door (stop.TooLarge need units) few reads cause same = absurd cause
lacks_journal journal service jobs disk door other few reads cause same = (few, reads, inl (cause, same))

-- or the door does not listen
pub lacks_door : (journal : OpenedJournal) (service : Service) (jobs : VerifierJobs) (disk : DiskChange) (door : DoorChange) (why : Refusal)
    → TakeFewUnits jobs → OpensJournal journal.choice disk → ListenStop service.address service.options.timeout door why
    → StopsOpening journal service jobs disk door why
lacks_door journal service jobs disk door (stop.TooLarge need units) few opens cause = absurd cause
lacks_door journal service jobs disk door other few opens cause = (few, opened_is_read journal.choice disk opens, inr cause)

-- the sessions about these jobs that were led over their file's journal
pub leads_jobs : {L : Type 0} (link_tells : L → LinkState) (service : Service) (jobs : VerifierJobs) (notes : List (SessionNote L))
    (door_failed memory_failed : Bool) (old mid new : DiskState) (door : DoorChange) (base : ℕ)
    → ((image : List ℕ) → old.images_since old.moment image → old.images image)
    → TakeFewUnits jobs → OpensJournal (own_journal service.file) (disk_change old mid)
    → ((bytes : List ℕ) → old.content ≡ Some bytes → SaysCeiling jobs.first.task.file.id jobs.first.task.file.params.total base bytes)
    → All (IsNoteOf (IsAnsweredNote link_tells jobs)) notes
    → TakesLinks service.options.sessions (length notes) door_failed memory_failed
    (after_listen service.address service.options.timeout service.options.sessions door.old) door.new
    → AllPairs (λ (one other : SessionNote L). AreGrantsApart one.granted other.granted) notes
    → (fresh : Type 0) → fresh → IsLeft fresh mid new jobs.first.task.file.id base jobs.first.task.file.params.total service.options.workers (units_of_note jobs) (λ (note : SessionNote L). note.granted)
    (λ (note : SessionNote L). grant_fault note.outcome) notes
    → All (λ note. IfSome (grant_fault note.outcome) (IsRefusedAmong (units_of_note jobs) base jobs.first.task.file.params.total notes note)) notes
    → LeadsJobs link_tells service jobs notes door_failed memory_failed (disk_change old new) door
leads_jobs {L} link_tells service jobs notes door_failed memory_failed old mid new door base only_now few opens recovered each taken apart fresh unused left refused = record {
  few = few;
  each = each;
  taken = taken;
  base = base;
  recovered = recovered;
  ceiling = left.closed.ceiling;
  mark = left.closed.mark;
  kept = keeps_ceiling old mid new (own_journal service.file) jobs.first.task.file.id jobs.first.task.file.params.total base left.passes only_now
      opens left.closed;
  apart = apart;
  spans = left.spans;
  within = left.within;
  most = left.most unused;
  marked = left.marked;
  told = left.told;
  once = left.once;
  refused = refused;
  passes = left.passes;
  workers = left.count;
  gathered = left.closed.gathered;
}
