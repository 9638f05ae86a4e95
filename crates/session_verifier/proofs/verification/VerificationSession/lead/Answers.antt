use Rattle.std.proofs.Common.{Option, None, Some, IfSome}
use Rattle.session_verifier.proofs.verification.VerificationSession.lead.Goals as goal

-- what holds in any case
always : {X : Type 0} (P : Type 0) (answer : Option X) → P → IfSome answer (λ x. P)
always P None holds = tt
always P (Some x) holds = holds

pub returns-clause-sized : goal.returns-clause-sized
returns-clause-sized g c = always _ (g.T.Grantor.answer c.lead_session-note.new.grantor) c.lead_session-note.ensures.sized
