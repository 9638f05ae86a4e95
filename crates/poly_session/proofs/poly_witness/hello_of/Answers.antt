use Rattle.std.proofs.Common.{rules, sym, subst}
use Rattle.sha2.proofs.Facts256.{length-sha256}
use Rattle.zk_model.proofs.Octets.{sha256_octets}
use Rattle.zk_model.specs.Bytes.{AreBytes}
use Rattle.poly_session.proofs.poly_witness.hello_of.Goals as goal

pub returns-clause-fits : goal.returns-clause-fits
returns-clause-fits c = record {
  id = c.requires.id;
  circuit = c.requires.digest;
  outputs = subst (AreBytes 32) (sym c.digest.ensures) (length-sha256 _, sha256_octets _);
  version = search rules;
  public = search rules;
}
