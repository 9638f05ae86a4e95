use Rattle.std.proofs.Common.{Option, IfSome, inl, inr, refl, subst}
use Rattle.zk_port.specs.Changes.{change}
use Rattle.command_words.specs.Commands.{ask_of, bits_ask}
use Rattle.command_words.specs.Forms.{IsReadAs}
use Rattle.command_words.specs.Words.{texts}
use Rattle.file_commands.specs.GivenBits.{IsGivenName}
use Rattle.file_commands.specs.Journals.{disk_change}
use Rattle.file_commands.specs.declared.refusal.Refusal.TheVariants.{NoMemory}
use Rattle.file_commands.proofs.Asking.{loads_nothing}
use Rattle.zk_cli.specs.Runs.{run_of}
use Rattle.zk_cli.proofs.Given.{does_two, lacks_bits, quiet_or_follows}
use Rattle.zk_cli.proofs.run.run_zk.Goals as goal

pub returns-in-Ok-Some-clause-usage_2 : goal.returns-in-Ok-Some-clause-usage_2
returns-in-Ok-Some-clause-usage_2 g c = λ two. absurd (does_two (ask_of bits_ask c.in-Ok-Some.command) c.args.seed.now
    (disk_change (g.B.Disk.state c.args.journal) (g.B.Disk.state c.run_words.result.journal))
    (run_of g.F.Shelf.state g.D.Door.state g.D.Link.Link.state g.B.Disk.state c.run_words.result.status c.run_words.result.part
    (change c.args.shelf.now c.run_words.new.shelf) (change (g.O.Sink.state c.args.out.now) (g.O.Sink.state c.run_words.new.out))
    (change c.args.journal c.run_words.result.journal) (change c.args.door c.run_words.result.door)) c.run_words.ensures.does two)

pub returns-in-Ok-Some-clause-quiet : goal.returns-in-Ok-Some-clause-quiet
returns-in-Ok-Some-clause-quiet g c =
    quiet_or_follows (IsReadAs (texts c.args.words.now)) (ask_of bits_ask c.in-Ok-Some.command) (g.E.Sink.state c.args.notices.now)
    (g.E.Sink.state c.run_words.new.notices)
    (subst (λ (found : Option _). IfSome found (λ command. IsReadAs (texts c.args.words.now) (ask_of bits_ask command))) c.in-Ok-Some.field-0-is
    c.in-Ok-Some.ensures.alike) c.run_words.ensures.quiet

pub returns-in-Err-clause-meets : goal.returns-in-Err-clause-meets
returns-in-Err-clause-meets g c = λ ask is_asked. inr (rw c.end-in-Err.ensures (lacks_bits g.F.Shelf.state g.D.Door.state g.D.Link.Link.state g.B.Disk.state ask NoMemory c.say_memory.result
    (change (g.O.Sink.state c.args.out.now) (g.O.Sink.state c.say_memory.new.out)) c.args.shelf.now c.args.shelf.now c.args.journal c.args.door
    (inl refl) (loads_nothing (IsGivenName ask) (g.F.Shelf.state c.args.shelf.now)) (inl c.say_memory.ensures)))

pub returns-in-Err-clause-headline : goal.returns-in-Err-clause-headline
returns-in-Err-clause-headline g c = λ ask is_asked. inr (rw c.end-in-Err.ensures refl)

pub returns-in-Err-clause-once : goal.returns-in-Err-clause-once
returns-in-Err-clause-once g c = λ ask is_asked. inr (rw c.end-in-Err.ensures refl)
