-- The frames of a round, and the trees that they speak of.
use Rattle.std.specs.Prelude.{List, [], map}
use Rattle.zk_model.specs.Transcript.{TreeAsk, TreeReply}
use Rattle.zk_model.specs.Frames as model
use Rattle.proof_frames.specs.Frames.{frame_value}
use Rattle.proof_frames.specs.declared.frame.Frame.{Frame}

-- the asks of a frame, none where it has none
abbrev pub asks_in : model.Frame → List TreeAsk
asks_in (model.asks trees) = trees
asks_in other = []

-- the same of replies
abbrev pub replies_in : model.Frame → List TreeReply
replies_in (model.replies trees) = trees
replies_in other = []

-- the asks of frames, unit by unit
abbrev pub asks_of : List Frame → List (List TreeAsk)
asks_of frames = map (λ frame. asks_in (frame_value frame)) frames

-- the replies of frames, unit by unit
abbrev pub replies_of : List Frame → List (List TreeReply)
replies_of frames = map (λ frame. replies_in (frame_value frame)) frames
