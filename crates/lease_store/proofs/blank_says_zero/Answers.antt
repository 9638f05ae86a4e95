use Rattle.lease_store.proofs.Finding.{blank_zero}
use Rattle.lease_store.proofs.blank_says_zero.Goals as goal

pub returns : goal.returns
returns c = blank_zero
