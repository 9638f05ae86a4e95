use Rattle.std.proofs.Common.{arith}
use Rattle.lease_store.proofs.Keeping.{stored_below}
use Rattle.lease_store.proofs.store.LeaseStore.await_ceiling.Goals as goal

pub returns-then-look-end-clause-stored : goal.returns-then-look-end-clause-stored
returns-then-look-end-clause-stored g c =
    let seen = c.look.ensures.stored in
    stored_below g.B.Disk.state seen.0.total seen.0.journal c.args.end c.look.result (omega (arith, c.if-look-end.true)) seen.1
