use Rattle.std.proofs.Common.{arith}
use Rattle.lease_store.proofs.Keeping.{stored_below}
use Rattle.lease_store.proofs.store.LeaseStore.try_lease.Goals as goal

pub returns-clause-stored : goal.returns-clause-stored
returns-clause-stored g c =
    let seen = c.look-known.ensures.stored in
    stored_below g.B.Disk.state seen.0.total seen.0.journal c.in-Ok.span.end c.look-known.result (omega (arith, c.if-known-span.false)) seen.1
