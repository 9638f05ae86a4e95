use Rattle.broker_node.proofs.Takes.{take_is_event}
use Rattle.broker_node.proofs.ties.take_is_event.Goals as goal

pub returns : goal.returns
returns g c = take_is_event
