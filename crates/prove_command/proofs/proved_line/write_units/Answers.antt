use Rattle.std.proofs.Common.{append_assoc}
use Rattle.prove_command.proofs.proved_line.write_units.Goals as goal

pub returns : goal.returns
returns c = simp append_assoc c.in_ok-format.ensures.ok
