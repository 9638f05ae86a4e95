use Rattle.poly_session.proofs.Answering.{sums_fit}
use Rattle.poly_session.proofs.poly_witness.sums_of.Goals as goal

pub returns-clause-fit : goal.returns-clause-fit
returns-clause-fit c = sums_fit c.args.polys.now _ c.args.challenge _ _ _ c.in_ok-sums.ensures.sums c.in_ok-sums.ensures.count
