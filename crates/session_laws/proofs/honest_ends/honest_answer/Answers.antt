use Rattle.session_laws.proofs.Answered as law
use Rattle.session_laws.proofs.honest_ends.honest_answer.Goals as goal

pub returns : goal.returns
returns c = law.honest_answer
