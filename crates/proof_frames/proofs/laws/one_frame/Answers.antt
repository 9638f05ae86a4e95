use Rattle.proof_frames.proofs.Unique as law
use Rattle.proof_frames.proofs.laws.one_frame.Goals as goal

pub returns : goal.returns
returns c = law.one_frame
