use Rattle.std.proofs.Common.{inl, inr}
use Rattle.node_command.proofs.NodeOutcomes.{makes_node}
use Rattle.node_command.proofs.node_command.run_node.Goals as goal

pub returns-in-Ok : goal.returns-in-Ok
returns-in-Ok g c = makes_node _ _ (inl (c.in-Ok.ensures.stored, c.say_node.ensures)) c.store_node.ensures.others c.store_node.ensures.asked

pub returns-in-Err : goal.returns-in-Err
returns-in-Err g c =
    makes_node _ _ (inr record { stop = c.in-Err.stop; cause = c.in-Err.ensures.stop; prints = c.say_stop.ensures })
    c.store_node.ensures.others c.store_node.ensures.asked
