use Rattle.std.proofs.Common.{◌≡◌, take}
use Rattle.zk_model.specs.Boolean.{bits_of_products}
use Rattle.zk_model.specs.HonestProver.{honest_corrections}
use Rattle.wire_auth.proofs.corrections.bit_corrections.Given as goal

abbrev pub invariant-loop-i : goal.invariant-loop-i
invariant-loop-i l = l.corrections.items ≡ take l.i (honest_corrections (bits_of_products l.program.products l.bits) l.dealt)
