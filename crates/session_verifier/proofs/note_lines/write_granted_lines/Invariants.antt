use Rattle.std.proofs.Common.{◌≡◌, ◌++◌, string_bytes, length}
use Rattle.std.specs.List.{concat}
use Rattle.session_verifier.specs.NoteLines.{unit_lines}
use Rattle.session_verifier.proofs.note_lines.write_granted_lines.Given as goal

-- the lines so far, and those of the rest
abbrev pub invariant-loop-rest : goal.invariant-loop-rest
invariant-loop-rest g l = string_bytes l.text ++ concat (unit_lines l.rest) ≡ concat (unit_lines l.notes)

abbrev pub decreases-loop-rest : goal.decreases-loop-rest
decreases-loop-rest g l = length l.rest
