use Rattle.std.proofs.Common.{ap}
use Rattle.zk_model.specs.Frames.{frame_spelling}
use Rattle.zk_model.specs.declared.FrameKind.TheVariants as kind
use Rattle.proof_frames.specs.Frames.{frame_value}
use Rattle.proof_frames.proofs.FrameLemmas.{short_elements, short_sums}
use Rattle.proof_frames.proofs.encoding.encode.Goals as goal

pub encode_elements-requires : goal.encode_elements-requires
encode_elements-requires c =
    short_elements (frame_value c.args.frame.now) kind.Corrections c.in-Corrections.elements.items c.deref-in-Corrections.result.now c.requires
    (ap (λ f. frame_spelling (frame_value f)) c.in-Corrections.is) c.deref-in-Corrections.ensures.value

pub encode_elements-requires-in-Openings : goal.encode_elements-requires-in-Openings
encode_elements-requires-in-Openings c =
    short_elements (frame_value c.args.frame.now) kind.Openings c.in-Openings.macs.items c.deref-in-Openings.result.now c.requires
    (ap (λ f. frame_spelling (frame_value f)) c.in-Openings.is) c.deref-in-Openings.ensures.value

pub encode_sums-requires : goal.encode_sums-requires
encode_sums-requires c =
    short_sums (frame_value c.args.frame.now) c.in-Sums.sums.items c.deref-in-Sums.result.now c.requires (ap frame_value c.in-Sums.is) c.deref-in-Sums.ensures.value

pub encode_elements-requires-in-PolySums : goal.encode_elements-requires-in-PolySums
encode_elements-requires-in-PolySums c =
    short_elements (frame_value c.args.frame.now) kind.Sums c.in-PolySums.sums.items c.deref-in-PolySums.result.now c.requires
    (ap (λ f. frame_spelling (frame_value f)) c.in-PolySums.is) c.deref-in-PolySums.ensures.value
