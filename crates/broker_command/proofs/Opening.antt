-- Wants that are answered over a journal that was opened.
use Rattle.std.proofs.Common.{◌≡◌, ◌∷◌, [], ℕ, Bool, List, length, All, Some, subst, arith}
use Rattle.zk_model.specs.Files.{VerifierFile}
use Rattle.zk_port.specs.Disks.{DiskState}
use Rattle.zk_port.specs.Doors.{after_listen}
use Rattle.zk_port.specs.Links.{LinkState}
use Rattle.lease_words.specs.declared.pass.Pass.{Pass}
use Rattle.lease_store.specs.Ceilings.{SaysCeiling}
use Rattle.lease_store.specs.declared.LeaseFault.{LeaseFault}
use Rattle.session_pool.specs.Doors.{TakesLinks}
use Rattle.session_pool.specs.Notes.{IsUnused}
use Rattle.broker_links.specs.declared.note.BrokerNote.{BrokerNote}
use Rattle.broker_service.specs.Left.{IsBrokered}
use Rattle.file_commands.specs.Effects.{DoorChange}
use Rattle.file_commands.specs.Journals.{OpensJournal, disk_change, own_journal}
use Rattle.file_commands.proofs.Journals.{keeps_ceiling}
use Rattle.command_words.specs.Words.{BrokerAsk}
use Rattle.broker_command.specs.BrokerRuns.{AnswersWants}

pub answers_wants : {B L : Type 0} (link_tells : L → LinkState) (state : B → DiskState) (ask : BrokerAsk) (file : VerifierFile)
    (notes : List (BrokerNote L LeaseFault)) (door_failed memory_failed : Bool) (old mid new : DiskState) (door : DoorChange) (base : ℕ) (passes : List Pass)
    → ((image : List ℕ) → old.images_since old.moment image → old.images image)
    → OpensJournal (own_journal ask.file) (disk_change old mid)
    → ((bytes : List ℕ) → old.content ≡ Some bytes → SaysCeiling file.id file.params.total base bytes)
    → TakesLinks ask.asks (length notes) door_failed memory_failed (after_listen ask.address ask.timeout ask.asks door.old) door.new
    → All IsUnused passes → IsBrokered link_tells state mid new file.id base file.params.total passes notes
    → AnswersWants link_tells state ask file notes door_failed memory_failed (disk_change old new) door
answers_wants link_tells state ask file notes door_failed memory_failed old mid new door base passes only_now opens recovered taken unused left =
    let undrawn : IsUnused left.first = subst (All IsUnused) left.one_pass unused 0 left.first (omega arith) in record {
      taken = taken;
      base = base;
      recovered = recovered;
      ceiling = left.closed.ceiling;
      mark = left.closed.mark;
      kept = keeps_ceiling old mid new (own_journal ask.file) file.id file.params.total base (left.last.pass ∷ []) only_now opens left.closed;
      first = left.first;
      unused = undrawn;
      asks = left.asks;
      last = left.last;
      exchanges = left.exchanges;
      gathered = left.closed.gathered;
      told = left.told;
      once = left.once;
      safe = left.safe;
      between = left.between;
      marked = left.marked;
      one_fault = left.one_fault;
      out = left.out undrawn;
      most = left.most undrawn;
    }
