use Rattle.claim_store.proofs.Starting.{claims_start_again}
use Rattle.claim_store.proofs.claims_start_again.Goals as goal

pub returns : goal.returns
returns c = claims_start_again
