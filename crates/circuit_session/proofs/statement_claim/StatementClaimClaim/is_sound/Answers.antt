use Rattle.circuit_session.proofs.Shown.{statement_is_sound}
use Rattle.circuit_session.proofs.statement_claim.StatementClaimClaim.is_sound.Goals as goal

pub returns : goal.returns
returns c = statement_is_sound c.args.self.now.statement.now c.program-stated.ensures.stated
