use Rattle.proof_frames.proofs.Begun as law
use Rattle.proof_frames.proofs.laws.goes_on_or_is_bad.Goals as goal

pub returns-clause-either : goal.returns-clause-either
returns-clause-either c = law.goes_on_or_is_bad

pub returns-clause-never_both : goal.returns-clause-never_both
returns-clause-never_both c = law.never_both
