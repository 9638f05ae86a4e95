use Rattle.session_laws.proofs.OutputsShown as law
use Rattle.session_laws.proofs.circuits.extracted_shows_outputs.Goals as goal

pub returns : goal.returns
returns c = law.extracted_shows_outputs
