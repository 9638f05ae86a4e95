use Rattle.std.proofs.Common.{◌≡◌, ◌++◌, map, string_bytes, length}
use Rattle.std.specs.List.{concat}
use Rattle.session_verifier.proofs.note_lines.push_lines.Given as goal

-- the text so far, and the lines of the rest
abbrev pub invariant-loop-rest : goal.invariant-loop-rest
invariant-loop-rest l = string_bytes l.text ++ concat (map string_bytes l.rest)
    ≡ string_bytes l.initial.text ++ concat (map string_bytes l.lines)

abbrev pub decreases-loop-rest : goal.decreases-loop-rest
decreases-loop-rest l = length l.rest
