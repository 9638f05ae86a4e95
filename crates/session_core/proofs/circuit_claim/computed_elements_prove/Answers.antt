use Rattle.session_core.proofs.Computed as law
use Rattle.session_core.proofs.circuit_claim.computed_elements_prove.Goals as goal

pub returns : goal.returns
returns c = law.elements_prove
