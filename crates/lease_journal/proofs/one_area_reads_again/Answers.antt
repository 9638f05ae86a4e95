use Rattle.lease_journal.proofs.OneAreas.{reads_again}
use Rattle.lease_journal.proofs.one_area_reads_again.Goals as goal

pub returns : goal.returns
returns c = reads_again
