use Rattle.bristol_reader.proofs.Wanted.{takes_single, no_single}
use Rattle.bristol_reader.proofs.tokens.Tokens.single.Goals as goal

pub returns-in_default-single_of-clause-fault : goal.returns-in_default-single_of-clause-fault
returns-in_default-single_of-clause-fault c =
    no_single c.args.self.now c.next.new.self c.in-Some.word c.taken-token.result c.taken-token.ensures c.in_default-single_of.ensures c.in-Some.ensures.word

pub returns-clause-name : goal.returns-clause-name
returns-clause-name c = takes_single c.args.self.now c.next.new.self c.in-Some.word c.in-Some-single_of.single c.in-Some-single_of.ensures c.in-Some.ensures.word
