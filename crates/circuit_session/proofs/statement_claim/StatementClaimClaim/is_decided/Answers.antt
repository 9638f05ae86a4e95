use Rattle.circuit_session.proofs.Decided.{statement_is_decided}
use Rattle.circuit_session.proofs.statement_claim.StatementClaimClaim.is_decided.Goals as goal

pub returns : goal.returns
returns c = statement_is_decided c.args.self.now.statement.now c.program-stated.ensures.stated
