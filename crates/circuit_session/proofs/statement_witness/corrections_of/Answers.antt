use Rattle.std.proofs.Common.{rules}
use Rattle.circuit_session.proofs.SaidFits.{corrections_fit}
use Rattle.circuit_session.proofs.statement_witness.corrections_of.Goals as goal

pub returns-clause-fit : goal.returns-clause-fit
returns-clause-fit c = corrections_fit _ _ _ _ c.in_ok-corrections.ensures.corrections (search rules)
