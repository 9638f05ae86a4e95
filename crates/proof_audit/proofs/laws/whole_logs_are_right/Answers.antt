use Rattle.proof_audit.proofs.OneReading as law
use Rattle.proof_audit.proofs.laws.whole_logs_are_right.Goals as goal

pub returns : goal.returns
returns c = law.whole_logs_are_right
