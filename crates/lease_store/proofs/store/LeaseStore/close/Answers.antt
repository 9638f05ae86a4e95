use Rattle.lease_store.proofs.Closing.{closed}
use Rattle.lease_store.proofs.store.LeaseStore.close.Goals as goal

pub returns : goal.returns
returns g c =
    let parts = c.into_seat-seat in
    let j = parts.result.keeper.journal in
    rw (← c.self.view_is, c.into_disk.ensures, c.gather-journal.ensures.keeper, c.self.invariant.1)
    (closed g.B.Disk.state g.N.LeaseName.start g.N.LeaseName.id g.N.LeaseName.total g.N.LeaseName.base j parts.result.seat.me.0
    parts.ensures.kept c.args.passes.items (rw (← c.self.invariant.1) c.gather-journal.ensures.gathered)
    (rw (← c.self.invariant.1) c.gather-journal.ensures.most) c.gather-journal.ensures.met)
