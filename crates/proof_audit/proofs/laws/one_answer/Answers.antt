use Rattle.proof_audit.proofs.AcceptedLogs as law
use Rattle.proof_audit.proofs.laws.one_answer.Goals as goal

pub returns : goal.returns
returns c = law.one_answer
