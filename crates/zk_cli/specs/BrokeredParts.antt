-- What a run of the program hands back of a broker.
use Rattle.std.specs.Prelude.{◌≡◌, Option, None, Some, Vec}
use Rattle.std.specs.Option.{option_map}
use Rattle.std.specs.declared.alloc.Global.{Global}
use Rattle.zk_port.specs.Disks.{DiskState}
use Rattle.zk_port.specs.Links.{LinkState}
use Rattle.lease_store.specs.declared.LeaseFault.{LeaseFault}
use Rattle.broker_links.specs.declared.note.BrokerNote.{BrokerNote}
use Rattle.command_words.specs.Words.{BrokerAsk}
use Rattle.file_commands.specs.Effects.{DoorChange, Effects}
use Rattle.file_commands.specs.Journals.{DiskChange}
use Rattle.broker_command.specs.BrokerRuns.{ServesAsBroker}
use Rattle.zk_cli.specs.declared.finish.Part.{Part}
use Rattle.zk_cli.specs.declared.finish.Part.TheVariants.{Brokered, Plain}

-- the notes of the exchanges, if the door listened
abbrev pub brokered_part : {L : Type 0} → Option (Vec (BrokerNote L LeaseFault) Global) → Part L
brokered_part None = Plain
brokered_part (Some notes) = Brokered notes

-- they are handed back, and the run is one of this broker
pub record BrokersPart {B L : Type 0} (link_tells : L → LinkState) (state : B → DiskState) (ask : BrokerAsk) (part : Part L) (disk : DiskChange)
    (door : DoorChange) (run : Effects) : Type 0 where
  pub notes : Option (Vec (BrokerNote L LeaseFault) Global)
  pub part_is : part ≡ brokered_part notes
  pub serves : ServesAsBroker link_tells state ask (option_map (λ n. n.items) notes) disk door run
