use Rattle.std.proofs.Common.{◌≡◌, ◌++◌, map, take, flat_map}
use Rattle.zk_model.specs.Frames.{frame_spelling}
use Rattle.zk_model.specs.Transcript.{bytes_from}
use Rattle.proof_frames.specs.Frames.{frame_value}
use Rattle.session_rehearsal.proofs.noting.note_frames.Given as goal

-- the first frames are noted
abbrev pub invariant-loop-frame : goal.invariant-loop-frame
invariant-loop-frame l = l.log ≡ l.fn.log ++ bytes_from l.fn.side (flat_map frame_spelling (map frame_value (take l.frame-index l.fn.frames)))
