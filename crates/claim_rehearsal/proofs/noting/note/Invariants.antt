use Rattle.std.proofs.Common.{◌≡◌, map, take}
use Rattle.proof_frames.specs.Frames.{frame_value}
use Rattle.session_script.specs.Scripts.{log_of}
use Rattle.claim_rehearsal.proofs.noting.note.Given as goal

-- the first frames are noted
abbrev pub invariant-loop-frame : goal.invariant-loop-frame
invariant-loop-frame l = l.log ≡ log_of (map frame_value (take l.frame-index l.fn.frames))
