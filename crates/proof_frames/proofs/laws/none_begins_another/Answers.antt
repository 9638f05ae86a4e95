use Rattle.proof_frames.proofs.Unique as law
use Rattle.proof_frames.proofs.laws.none_begins_another.Goals as goal

pub returns : goal.returns
returns c = law.none_begins_another
