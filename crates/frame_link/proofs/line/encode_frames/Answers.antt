use Rattle.std.proofs.Common.{◌++◌, ap, ◌∙◌}
use Rattle.zk_model.specs.Frames.{frame_spelling}
use Rattle.proof_frames.specs.Frames.{frame_value, IsShort}
use Rattle.frame_link.proofs.FramesLemmas.{holds_of, bytes_more}
use Rattle.frame_link.proofs.line.encode_frames.Goals as goal

pub encode-requires : goal.encode-requires
encode-requires c = holds_of IsShort frame_value c.args.frames.now c.loop-frame.frame-index c.frame-item.result c.loop-frame-test.true c.frame-item.is c.requires

pub loop-frame-preserved : goal.loop-frame-preserved
loop-frame-preserved c = bytes_more frame_spelling frame_value c.args.frames.now c.loop-frame.frame-index c.frame-item.result c.loop-frame.bytes.items _ c.loop-frame-test.true c.frame-item.is
    c.loop-frame.invariant (c.in_ok-extend_from_slice.ensures.items ∙ ap (λ l. c.loop-frame.bytes.items ++ l) (c.deref.ensures.value ∙ c.in_ok-more.ensures.bytes))
