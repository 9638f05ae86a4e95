use Rattle.std.proofs.Common.{sym, subst}
use Rattle.sha2.proofs.Facts256.{length-sha256}
use Rattle.zk_model.proofs.Octets.{sha256_octets}
use Rattle.zk_model.specs.Bytes.{AreBytes}
use Rattle.claim_tests.proofs.given.digest_of.Goals as goal

pub returns : goal.returns
returns c = subst (AreBytes 32) (sym c.digest.ensures) (length-sha256 _, sha256_octets _)
