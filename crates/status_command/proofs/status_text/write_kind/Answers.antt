use Rattle.std.proofs.Common.{append_assoc}
use Rattle.status_command.proofs.status_text.write_kind.Goals as goal

pub returns-in_ok-format-in-Extended : goal.returns-in_ok-format-in-Extended
returns-in_ok-format-in-Extended c = rw c.in-Extended.is (simp append_assoc c.in_ok-format-in-Extended.ensures.ok)
