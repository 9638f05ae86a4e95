use Rattle.memory_ports.proofs.Scripts.{next_piece}
use Rattle.memory_ports.proofs.scripted_link.ScriptedLinkLink.receive.Goals as goal

pub returns-then-not-is_empty-clause-next : goal.returns-then-not-is_empty-clause-next
returns-then-not-is_empty-clause-next g c = next_piece c.args.self.now.script.items c.deref.result.now _ c.args.self.now.place c.copy_front-taken.result c.deref.ensures.value c.copy_front-taken.ensures.front
