-- What a broker sends, as a frame.
use Rattle.zk_model.specs.Frames.{Frame, block, out}
use Rattle.zk_model.specs.Messages.{FitsBlock, FitsOut}
use Rattle.broker_links.specs.declared.reply.Reply.{Reply}
use Rattle.broker_links.specs.declared.reply.Reply.TheVariants as reply

-- the frame of a reply
abbrev pub reply_frame : Reply → Frame
reply_frame (reply.Block given) = block given
reply_frame (reply.Out said) = out said

-- its numbers are those of a frame
abbrev pub FitsReply : Reply → Type 0
FitsReply (reply.Block given) = FitsBlock given
FitsReply (reply.Out said) = FitsOut said
