use Rattle.bristol_reader.proofs.Wanted.{no_number, takes_number}
use Rattle.bristol_reader.proofs.tokens.Tokens.number.Goals as goal

pub returns-in_default-word-clause-fault : goal.returns-in_default-word-clause-fault
returns-in_default-word-clause-fault c =
    no_number c.args.self.now c.next.new.self c.in-Some.word c.in_default-word.field-0 c.taken-token.result c.in_default-word.is c.taken-token.ensures c.in-Some.ensures.word

pub returns-clause-number : goal.returns-clause-number
returns-clause-number c = takes_number c.args.self.now c.next.new.self c.in-Some.word c.in-Number.number c.taken-token.result c.in-Number.is c.taken-token.ensures c.in-Some.ensures.word
