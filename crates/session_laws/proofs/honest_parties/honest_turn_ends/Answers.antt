use Rattle.session_laws.proofs.PeersHonest as law
use Rattle.session_laws.proofs.honest_parties.honest_turn_ends.Goals as goal

pub returns : goal.returns
returns c = law.honest_turn_ends
