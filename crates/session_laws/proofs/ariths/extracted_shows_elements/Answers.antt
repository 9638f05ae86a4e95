use Rattle.session_laws.proofs.ElementsShown as law
use Rattle.session_laws.proofs.ariths.extracted_shows_elements.Goals as goal

pub returns : goal.returns
returns c = law.extracted_shows_elements
