use Rattle.std.proofs.Common.{append_assoc}
use Rattle.file_commands.proofs.saying.write_refused.Goals as goal

pub returns : goal.returns
returns c = simp append_assoc c.in_ok-format.ensures.ok
