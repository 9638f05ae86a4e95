use Rattle.broker_node.proofs.BrokerEvents.{broker_step_is_event}
use Rattle.broker_node.proofs.ties.broker_step_is_event.Goals as goal

pub returns : goal.returns
returns c = broker_step_is_event
