use Rattle.std.proofs.Common.{rules, string_bytes}
use Rattle.session_verifier.proofs.NoteOrder.{served_text}
use Rattle.session_verifier.proofs.note_lines.write_served.Goals as goal

pub returns : goal.returns
returns g c =
    served_text c.args.notes.now c.args.door_failed c.in_ok-refusals.refusals.items c.sort_unstable.new.self.items
    (string_bytes c.push_str.new.self) c.in_ok-refusals.ensures c.sort_unstable.ensures.permutation c.sort_unstable.ensures.sorted
    (search rules)
