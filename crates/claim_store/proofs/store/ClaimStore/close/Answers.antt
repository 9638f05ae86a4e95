use Rattle.claim_store.proofs.Claiming.{durable_of}
use Rattle.claim_store.proofs.store.ClaimStore.close.Goals as goal

pub returns-clause-durable : goal.returns-clause-durable
returns-clause-durable g c = rw (← c.self.view_is) (durable_of g.B.Disk.state c.self.inside.journal _ _ c.self.invariant)
