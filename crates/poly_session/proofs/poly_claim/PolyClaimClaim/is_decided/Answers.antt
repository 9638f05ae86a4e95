use Rattle.poly_session.proofs.Decided.{poly_is_decided}
use Rattle.poly_session.proofs.poly_claim.PolyClaimClaim.is_decided.Goals as goal

pub returns : goal.returns
returns c = poly_is_decided c.args.self.now.polys.now c.args.self.now.digest
