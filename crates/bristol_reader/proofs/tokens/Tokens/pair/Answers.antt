use Rattle.bristol_reader.proofs.Wanted.{takes_pair, no_pair}
use Rattle.bristol_reader.proofs.tokens.Tokens.pair.Goals as goal

pub returns-in_default-pair_of-clause-fault : goal.returns-in_default-pair_of-clause-fault
returns-in_default-pair_of-clause-fault c =
    no_pair c.args.self.now c.next.new.self c.in-Some.word c.taken-token.result c.taken-token.ensures c.in_default-pair_of.ensures c.in-Some.ensures.word

pub returns-clause-name : goal.returns-clause-name
returns-clause-name c = takes_pair c.args.self.now c.next.new.self c.in-Some.word c.in-Some-pair_of.pair c.in-Some-pair_of.ensures c.in-Some.ensures.word
