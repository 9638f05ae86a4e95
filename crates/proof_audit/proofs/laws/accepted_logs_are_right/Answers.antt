use Rattle.proof_audit.proofs.AcceptedLogs as law
use Rattle.proof_audit.proofs.laws.accepted_logs_are_right.Goals as goal

pub returns : goal.returns
returns c = law.accepted_logs_are_right
