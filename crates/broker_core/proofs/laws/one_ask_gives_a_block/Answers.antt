use Rattle.broker_core.proofs.Serves.{ask_gives_block}
use Rattle.broker_core.proofs.laws.one_ask_gives_a_block.Goals as goal

pub returns : goal.returns
returns c = ask_gives_block
