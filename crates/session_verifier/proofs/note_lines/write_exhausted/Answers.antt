use Rattle.std.proofs.Common.{append_assoc}
use Rattle.session_verifier.proofs.note_lines.write_exhausted.Goals as goal

pub returns : goal.returns
returns c = simp append_assoc c.in_ok-format.ensures.ok
