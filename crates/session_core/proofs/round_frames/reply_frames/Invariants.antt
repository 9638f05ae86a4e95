use Rattle.std.proofs.Common.{◌≡◌, ◌++◌, map}
use Rattle.std.specs.Vec.Iter.{into_iter_items}
use Rattle.zk_model.specs.Frames as model
use Rattle.proof_frames.specs.Frames.{frame_value}
use Rattle.round_fan.specs.Fans.{lists_of}
use Rattle.session_core.proofs.round_frames.reply_frames.Given as goal

-- the frames so far, and the replies that are left
abbrev pub invariant-loop-trees : goal.invariant-loop-trees
invariant-loop-trees l =
    map frame_value l.frames.items ++ map model.replies (lists_of (into_iter_items l.trees-iterator)) ≡ map model.replies (lists_of l.fn.replies.items)
