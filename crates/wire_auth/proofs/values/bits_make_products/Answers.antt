use Rattle.wire_auth.proofs.Making as law
use Rattle.wire_auth.proofs.values.bits_make_products.Goals as goal

pub returns : goal.returns
returns c = law.bits_make_products
