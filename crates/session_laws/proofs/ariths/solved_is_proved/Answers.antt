use Rattle.session_laws.proofs.ArithProved as law
use Rattle.session_laws.proofs.ariths.solved_is_proved.Goals as goal

pub returns : goal.returns
returns c = law.solved_is_proved
