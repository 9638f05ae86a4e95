use Rattle.lease_store.proofs.Finding.{ceilings_again}
use Rattle.lease_store.proofs.ceilings_start_again.Goals as goal

pub returns : goal.returns
returns c = ceilings_again
