use Rattle.std.proofs.Common.{Some, None, List, subst}
use Rattle.zk_port.specs.Changes.{change}
use Rattle.lease_store.specs.declared.LeaseFault.{LeaseFault}
use Rattle.broker_links.specs.declared.note.BrokerNote.{BrokerNote}
use Rattle.file_commands.specs.Effects.{effects}
use Rattle.file_commands.specs.Journals.{disk_change}
use Rattle.file_commands.specs.Stops.{PrintsMade}
use Rattle.command_words.specs.Commands.{broker_of}
use Rattle.broker_command.specs.NoteLines.{brokered_status, brokered_text}
use Rattle.broker_command.proofs.BrokerDone.{serves_as_broker}
use Rattle.broker_command.proofs.broker_command.broker_heard.Goals as goal

pub returns-in-Ok : goal.returns-in-Ok
returns-in-Ok g c =
    serves_as_broker g.D.Link.Link.state g.B.Disk.state c.ceilings_start_again.ensures (broker_of c.args.ask.now) (Some c.in-Ok.left.notes.items)
    (disk_change (g.B.Disk.state c.args.journal) (g.B.Disk.state c.in-Ok.left.disk))
    (change (g.D.Door.state c.args.door) (g.D.Door.state c.in-Ok.left.door))
    (effects c.say_brokered-status.result (change (g.F.Shelf.state c.args.shelf.now) (g.F.Shelf.state c.answer_wants.new.shelf))
    (change (g.O.Sink.state c.args.out.now) (g.O.Sink.state c.say_brokered-status.new.out)))
    (record {
      door_failed = c.in-Ok.left.door_failed;
      memory_failed = c.in-Ok.left.memory_failed;
      answers = c.in-Ok.ensures.answers;
      quiet = c.in-Ok.ensures.quiet;
      prints = subst (λ (notes : List (BrokerNote g.row.D-Link.Denot LeaseFault)).
          PrintsMade (brokered_status notes c.in-Ok.left.door_failed c.in-Ok.left.memory_failed) (brokered_text notes c.in-Ok.left.door_failed)
          c.say_brokered-status.result (change (g.O.Sink.state c.args.out.now) (g.O.Sink.state c.say_brokered-status.new.out)))
          c.deref.ensures.value c.say_brokered-status.ensures;
    })
    c.answer_wants.ensures.kept

pub returns-in-Err : goal.returns-in-Err
returns-in-Err g c =
    serves_as_broker g.D.Link.Link.state g.B.Disk.state c.ceilings_start_again.ensures (broker_of c.args.ask.now) None
    (disk_change (g.B.Disk.state c.args.journal) (g.B.Disk.state c.in-Err.field-0.disk))
    (change (g.D.Door.state c.args.door) (g.D.Door.state c.in-Err.field-0.door))
    (effects c.say_stop-status.result (change (g.F.Shelf.state c.args.shelf.now) (g.F.Shelf.state c.answer_wants.new.shelf))
    (change (g.O.Sink.state c.args.out.now) (g.O.Sink.state c.say_stop-status.new.out)))
    (record { stop = c.in-Err.field-0.refusal; cause = c.in-Err.ensures.stop; prints = c.say_stop-status.ensures })
    c.answer_wants.ensures.kept
