use Rattle.proof_frames.proofs.Begun as law
use Rattle.proof_frames.proofs.laws.whole_wants_nothing.Goals as goal

pub returns-clause-whole : goal.returns-clause-whole
returns-clause-whole c = law.whole_wants_nothing

pub returns-clause-nothing_wanted : goal.returns-clause-nothing_wanted
returns-clause-nothing_wanted c = law.nothing_wanted_is_whole
