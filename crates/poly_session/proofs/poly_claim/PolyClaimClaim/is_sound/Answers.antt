use Rattle.std.proofs.Common.{◌≤◌, subst}
use Rattle.poly_session.proofs.Sound.{poly_sound}
use Rattle.poly_session.proofs.poly_claim.PolyClaimClaim.is_sound.Goals as goal

pub returns : goal.returns
returns c = poly_sound c.args.self.now.polys.now c.args.self.now.digest (subst (λ n. 2 ≤ n) c.degree-degree.ensures.value c.degree-degree.ensures.least)
    c.check_shows.ensures
