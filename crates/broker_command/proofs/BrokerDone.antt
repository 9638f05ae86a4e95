-- Where nothing is refused and nothing fails, what was asked for is done.
use Rattle.std.proofs.Common.{◌≡◌, ℕ, List, Option, None, Some, refl, ◌∙◌, inl, inr}
use Rattle.std.specs.Prelude.{◌≢◌}
use Rattle.zk_model.specs.declared.Side.TheVariants.{Verifier}
use Rattle.zk_port.specs.Counts.{Rose}
use Rattle.zk_port.specs.Disks.{DiskState}
use Rattle.zk_port.specs.Links.{LinkState}
use Rattle.lease_journal.specs.declared.fault.StartFault.{StartFault}
use Rattle.lease_journal.specs.declared.fault.StartFault.TheVariants as start
use Rattle.lease_store.specs.Laws.{CeilingsStartAgain}
use Rattle.lease_store.specs.declared.LeaseFault.{LeaseFault}
use Rattle.broker_links.specs.declared.note.BrokerNote.{BrokerNote}
use Rattle.file_commands.specs.Effects.{DoorChange, Effects, IsName, OnlyLoads}
use Rattle.file_commands.specs.Journals.{DiskChange, IsCeilingsFault, JournalStop}
use Rattle.file_commands.specs.Stops.{ListenStop, stop_status}
use Rattle.file_commands.specs.declared.refusal.Refusal.{Refusal}
use Rattle.file_commands.specs.declared.refusal.Refusal.TheVariants as stop
use Rattle.file_commands.proofs.Causes.{file_7, sound_7}
use Rattle.command_words.specs.Words.{BrokerAsk}
use Rattle.broker_command.specs.BrokerRuns.{BrokerLines, BrokerMeans, BrokerStop, HasBrokerFailed, HasCeilings, IsBrokerDone, IsBrokerable, ServesAsBroker}
use Rattle.broker_command.proofs.BrokerOutcomes.{broker_means, broker_statuses, broker_takes}

-- ---- why a run stops: for want of memory alone

-- no journal is refused where one stands
journal_7 : CeilingsStartAgain → (id : List ℕ) (total : ℕ) (disk : DiskChange) → HasCeilings id total disk.old.content
    → ¬ Rose disk.old.faults disk.new.faults → (why : Refusal) → JournalStop (IsCeilingsFault id total disk.old) disk why → stop_status why ≡ 7
journal_7 law id total disk has calm why cause = sound_7 (IsCeilingsFault id total disk.old) disk sound calm why cause
  where
    sound : (fault : StartFault) → fault ≢ start.Device → ¬ IsCeilingsFault id total disk.old fault
    sound fault other cause = other ((law.said id total has.base has.bytes has.says).refused fault (cause has.bytes has.known))

listen_7 : (address : List ℕ) (patience : ℕ) (door : DoorChange) → ¬ Rose door.old.listen_faults door.new.listen_faults → (why : Refusal)
    → ListenStop address patience door why → stop_status why ≡ 7
listen_7 address patience door calm stop.DoorFailed cause = absurd (calm cause.1)
listen_7 address patience door calm stop.NoMemory cause = refl
listen_7 address patience door calm other cause = absurd cause

module _ {L : Type 0} (link_tells : L → LinkState) (law : CeilingsStartAgain) (ask : BrokerAsk) (notes : Option (List (BrokerNote L LeaseFault)))
    (disk : DiskChange) (door : DoorChange) (run : Effects) (ready : IsBrokerable run.shelf.old.told disk.old ask)
    (calm : ¬ HasBrokerFailed link_tells ask notes disk door run) where
  stop_7 : (why : Refusal) → BrokerStop ask run.shelf disk door why → stop_status why ≡ 7
  stop_7 why (inl lacks) = file_7 Verifier ask.file run.shelf ready.tells ready.file (λ rose. calm (inl rose)) why lacks.0
  stop_7 why (inr (file, stands, opening)) = elim opening.cause [
    | inl journal ↦ journal_7 law file.id file.params.total disk (ready.journal file stands) (λ rose. calm (inr (inr (inl rose)))) why journal.0
    | inr unheard ↦ listen_7 ask.address ask.timeout door (λ rose. calm (inr (inr (inr (inl (inl rose)))))) why unheard
  ]

-- ---- the run

broker_done : {L : Type 0} (link_tells : L → LinkState) → CeilingsStartAgain → (ask : BrokerAsk) (notes : Option (List (BrokerNote L LeaseFault)))
    (disk : DiskChange) (door : DoorChange) (run : Effects) → BrokerMeans link_tells ask notes disk door run
    → IsBrokerable run.shelf.old.told disk.old ask → ¬ HasBrokerFailed link_tells ask notes disk door run → IsBrokerDone notes run.status
broker_done link_tells law ask (Some notes) disk door run (inl zero_is) ready calm = inl (zero_is.0, zero_is.1.each)
broker_done link_tells law ask (Some notes) disk door run (inr (inl one)) ready calm = inr (inl one)
broker_done link_tells law ask (Some notes) disk door run (inr (inr (inl (at, inl failed)))) ready calm = absurd (calm (inr (inr (inr (inl failed)))))
broker_done link_tells law ask (Some notes) disk door run (inr (inr (inl (at, inr (inl failed))))) ready calm = absurd (calm (inr (inl failed)))
broker_done link_tells law ask (Some notes) disk door run (inr (inr (inl (at, inr (inr failed))))) ready calm = absurd (calm (inr (inr (inr (inr failed)))))
broker_done link_tells law ask (Some notes) disk door run (inr (inr (inr (inl five)))) ready calm = absurd (calm (inr (inr (inl five.1))))
broker_done link_tells law ask (Some notes) disk door run (inr (inr (inr (inr (inl six))))) ready calm = inr (inr (inl six))
broker_done link_tells law ask (Some notes) disk door run (inr (inr (inr (inr (inr seven))))) ready calm = inr (inr (inr seven))
broker_done link_tells law ask None disk door run (inl of) ready calm =
    inr (inr (inr (of.2 ∙ stop_7 link_tells law ask None disk door run ready calm of.0 of.1)))
broker_done link_tells law ask None disk door run (inr seven) ready calm = inr (inr (inr seven))

pub serves_as_broker : {B L : Type 0} (link_tells : L → LinkState) (state : B → DiskState) → CeilingsStartAgain → (ask : BrokerAsk)
    (notes : Option (List (BrokerNote L LeaseFault))) (disk : DiskChange) (door : DoorChange) (run : Effects)
    → BrokerLines link_tells state ask notes disk door run → OnlyLoads (IsName ask.file) run.shelf
    → ServesAsBroker link_tells state ask notes disk door run
serves_as_broker link_tells state law ask notes disk door run lines loads =
    let means = broker_means link_tells state ask notes disk door run lines in record {
      lines = lines;
      all = broker_takes link_tells state ask notes disk door run lines;
      statuses = broker_statuses link_tells ask notes disk door run means;
      means = means;
      done = λ ready calm. broker_done link_tells law ask notes disk door run means ready calm;
      loads = loads;
    }
