use Rattle.std.proofs.Common.{rules}
use Rattle.std.proofs.lemmas.List.Sorted.{IsNonDecreasingBy-from_sort_by_key}
use Rattle.session_verifier.specs.NoteLines.{start_of}
use Rattle.session_verifier.proofs.note_lines.order_notes.Goals as goal

pub returns-clause-ordered : goal.returns-clause-ordered
returns-clause-ordered g c =
    IsNonDecreasingBy-from_sort_by_key (λ note. start_of note.granted) _ c.sort_unstable_by_key.ensures.sorted (λ a r q k. search rules)
