use Rattle.std.proofs.Common.{◌+◌, sym, ◌∙◌, ap, arith}
use Rattle.proof_frames.specs.Rows.{payload_length}
use Rattle.proof_frames.proofs.Kept.{length_held, length_unheld}
use Rattle.proof_frames.proofs.Lengths.{short_row}
use Rattle.proof_frames.proofs.held.Held.frame_length.Goals as goal

pub returns-then-len-told_at : goal.returns-then-len-told_at
returns-then-len-told_at c =
    let held = c.args.self.now in
    c.untold_length.ensures ∙ sym (length_unheld c.args.place held c.requires (omega (arith, held.start.ok.0)))

pub length-requires : goal.length-requires
length-requires c = rw c.row.ensures (short_row c.args.place _ c.requires.short)

pub returns : goal.returns
returns c =
    let held = c.args.self.now in
    c.length.ensures ∙ ap (λ row. 5 + payload_length row.payload) c.row.ensures
    ∙ sym (length_held c.args.place held (omega (arith, held.start.ok.0)))
