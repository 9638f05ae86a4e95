use Rattle.broker_node.proofs.Nodes.{ask_is_event, draw_is_event, others_leave}
use Rattle.broker_node.proofs.ties.asks_and_draws_are_events.Goals as goal

pub returns-clause-ask : goal.returns-clause-ask
returns-clause-ask g c = ask_is_event

pub returns-clause-draw : goal.returns-clause-draw
returns-clause-draw g c = draw_is_event

pub returns-clause-others : goal.returns-clause-others
returns-clause-others g c = others_leave
