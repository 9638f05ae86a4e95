use Rattle.command_words.proofs.Orders.{stands, complete}
use Rattle.command_words.proofs.laws.words_stand_so.Goals as goal

pub returns : goal.returns
returns c = λ words positional options. (stands words positional options, complete)
