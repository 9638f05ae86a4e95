use Rattle.broker_node.proofs.Takes.{takes_agree}
use Rattle.broker_node.proofs.ties.takes_agree.Goals as goal

pub returns : goal.returns
returns c = takes_agree
