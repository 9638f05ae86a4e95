use Rattle.zk_laws.proofs.FindingShows as law
use Rattle.zk_laws.proofs.extraction.finding_shows.Goals as goal

pub returns : goal.returns
returns c = law.finding_shows
