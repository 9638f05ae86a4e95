use Rattle.std.proofs.Common.{ap, sym, ◌∙◌, arith, subst}
use Rattle.std.proofs.lemmas.List.{length-map, get_or-map}
use Rattle.proof_frames.specs.Frames.{frame_value, IsShort}
use Rattle.claim_rehearsal.proofs.noting.note.Goals as goal

pub note_frame-requires : goal.note_frame-requires
note_frame-requires c =
    let frames = c.args.frames.now in
    subst IsShort
    (get_or-map frame_value frames c.loop-frame.frame-index c.frame-item.result (frame_value c.frame-item.result) c.loop-frame-test.true ∙ ap frame_value (sym c.frame-item.is))
    (c.requires c.loop-frame.frame-index (frame_value c.frame-item.result) (omega (arith, c.loop-frame-test.true, length-map frames frame_value)))
