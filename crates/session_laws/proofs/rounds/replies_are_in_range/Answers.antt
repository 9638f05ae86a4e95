use Rattle.session_laws.proofs.Shapes as law
use Rattle.session_laws.proofs.rounds.replies_are_in_range.Goals as goal

pub returns : goal.returns
returns c = law.round_replies_shaped
