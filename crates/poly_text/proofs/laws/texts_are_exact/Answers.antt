use Rattle.poly_text.proofs.Exact.{texts_are_exact}
use Rattle.poly_text.proofs.laws.texts_are_exact.Goals as goal

pub returns : goal.returns
returns c = texts_are_exact
