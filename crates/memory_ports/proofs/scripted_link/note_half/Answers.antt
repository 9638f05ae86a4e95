use Rattle.memory_ports.proofs.Halves.{half_noted, half_length}
use Rattle.memory_ports.proofs.scripted_link.note_half.Goals as goal

pub returns-clause-part : goal.returns-clause-part
returns-clause-part c = half_noted c.note_bytes.result c.args.log.now.items c.note_bytes.new.log.items c.args.way c.args.bytes.now _ c.note_bytes.ensures.noted c.note_bytes.ensures.refused

pub returns-clause-half : goal.returns-clause-half
returns-clause-half c = half_length c.note_bytes.result c.args.log.now.items c.note_bytes.new.log.items c.args.way c.args.bytes.now _ c.note_bytes.ensures.noted c.note_bytes.ensures.refused
