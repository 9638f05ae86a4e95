use Rattle.std.proofs.Common.{◌≡◌, ◌++◌, string_bytes, length, flat_map}
use Rattle.broker_command.specs.NoteLines.{note_line}
use Rattle.broker_command.proofs.note_lines.write_notes.Given as goal

-- the lines so far, and those of the rest
abbrev pub invariant-loop-rest : goal.invariant-loop-rest
invariant-loop-rest g l = string_bytes l.text ++ flat_map (λ note. note_line note.outcome) l.rest
    ≡ flat_map (λ note. note_line note.outcome) l.notes

abbrev pub decreases-loop-rest : goal.decreases-loop-rest
decreases-loop-rest g l = length l.rest
