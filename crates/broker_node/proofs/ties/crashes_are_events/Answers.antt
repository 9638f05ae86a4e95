use Rattle.broker_node.proofs.Takes.{cut_is_event, start_is_event}
use Rattle.broker_node.proofs.ties.crashes_are_events.Goals as goal

pub returns-clause-cut : goal.returns-clause-cut
returns-clause-cut g c = cut_is_event

pub returns-clause-start : goal.returns-clause-start
returns-clause-start g c = start_is_event
