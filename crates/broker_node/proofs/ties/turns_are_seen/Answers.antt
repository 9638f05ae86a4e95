use Rattle.broker_node.proofs.Turns.{turns_are_seen}
use Rattle.broker_node.proofs.ties.turns_are_seen.Goals as goal

pub returns : goal.returns
returns c = turns_are_seen
