use Rattle.session_laws.proofs.Shapes as law
use Rattle.session_laws.proofs.rounds.asks_are_in_range.Goals as goal

pub returns : goal.returns
returns c = law.round_asks_shaped
