use Rattle.std.proofs.Common.{◌≡◌, ◌++◌, map, string_bytes, length}
use Rattle.session_verifier.specs.NoteLines.{refusal_lines}
use Rattle.session_verifier.proofs.note_lines.write_refusals.Given as goal

-- the lines so far, and those of the rest
abbrev pub invariant-loop-rest : goal.invariant-loop-rest
invariant-loop-rest g l = map string_bytes l.lines.items ++ refusal_lines l.rest ≡ refusal_lines l.notes

abbrev pub decreases-loop-rest : goal.decreases-loop-rest
decreases-loop-rest g l = length l.rest
