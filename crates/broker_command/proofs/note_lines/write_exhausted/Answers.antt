use Rattle.std.proofs.Common.{append_assoc}
use Rattle.broker_command.proofs.note_lines.write_exhausted.Goals as goal

pub returns : goal.returns
returns c = simp append_assoc c.in_ok-format.ensures.ok
