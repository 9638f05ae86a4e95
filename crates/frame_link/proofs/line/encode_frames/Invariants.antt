use Rattle.std.proofs.Common.{◌≡◌, map, take, flat_map}
use Rattle.zk_model.specs.Frames.{frame_spelling}
use Rattle.proof_frames.specs.Frames.{frame_value}
use Rattle.frame_link.proofs.line.encode_frames.Given as goal

-- the first frames
abbrev pub invariant-loop-frame : goal.invariant-loop-frame
invariant-loop-frame l = l.bytes.items ≡ flat_map frame_spelling (map frame_value (take l.frame-index l.frames))
