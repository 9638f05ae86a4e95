use Rattle.std.proofs.Common.{◌∙◌, inl, inr}
use Rattle.zk_port.specs.Changes.{change}
use Rattle.command_words.specs.Commands.{ask_of, bits_ask, known_bits}
use Rattle.file_commands.specs.Journals.{disk_change}
use Rattle.zk_cli.proofs.Given.{follows_given, lacks_bits, promises_on}
use Rattle.zk_cli.proofs.run.run_words.Goals as goal

pub returns-in-Ok-clause-does : goal.returns-in-Ok-clause-does
returns-in-Ok-clause-does g c = inl (
  ask_of known_bits c.in-Ok.known,
  c.in-Ok.ensures.given,
  promises_on g.F.Shelf.state g.D.Door.state g.D.Link.Link.state g.B.Disk.state c.run_command.result.status c.run_command.result.part
      (change (g.O.Sink.state c.args.out.now) (g.O.Sink.state c.run_command.new.out)) (change c.args.ports.journal c.run_command.result.journal)
      (change c.args.ports.door c.run_command.result.door) c.args.seed.now
      (disk_change (g.B.Disk.state c.args.ports.journal) (g.B.Disk.state c.run_command.result.journal)) c.args.shelf.now c.read_given.new.shelf
      c.run_command.new.shelf c.in-Ok.ensures.quiet (ask_of known_bits c.in-Ok.known) c.run_command.ensures.promises,
)

pub returns-in-Ok-clause-quiet : goal.returns-in-Ok-clause-quiet
returns-in-Ok-clause-quiet g c = λ still. c.run_command.ensures.quiet (
    follows_given (g.F.Shelf.state c.args.shelf.now).told (ask_of bits_ask c.args.command) (ask_of known_bits c.in-Ok.known) c.in-Ok.ensures.given
    ∙ still
    )

pub returns-in-Err-clause-does : goal.returns-in-Err-clause-does
returns-in-Err-clause-does g c = inr (rw c.end.ensures (lacks_bits g.F.Shelf.state g.D.Door.state g.D.Link.Link.state g.B.Disk.state (ask_of bits_ask c.args.command) c.in-Err.stop
    c.say_stop.result (change (g.O.Sink.state c.args.out.now) (g.O.Sink.state c.say_stop.new.out)) c.args.shelf.now c.read_given.new.shelf
    c.args.ports.journal c.args.ports.door c.in-Err.ensures.stop c.in-Err.ensures.kept c.say_stop.ensures))
