use Rattle.poly_text.proofs.Texts.{only_constraints, only_fault}
use Rattle.poly_text.proofs.reader.read.Goals as goal

pub returns-clause-found : goal.returns-clause-found
returns-clause-found c = only_constraints c.args.text.now c.read_text.result c.texts_are_exact.ensures c.read_text.ensures.found

pub returns-clause-cause : goal.returns-clause-cause
returns-clause-cause c = only_fault c.args.text.now c.read_text.result c.texts_are_exact.ensures c.read_text.ensures.cause
