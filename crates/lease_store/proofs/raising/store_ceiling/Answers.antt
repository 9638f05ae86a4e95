use Rattle.std.proofs.Common.{◌<◌, arith, sym, subst}
use Rattle.zk_port.specs.Disks.{LeavesOnly}
use Rattle.lease_journal.specs.Twins.{SaysOldOrNew}
use Rattle.lease_store.specs.Raising.{raised_bodies, raised_generation}
use Rattle.lease_store.proofs.Covering.{not_all_used, put_changes}
use Rattle.lease_store.proofs.raising.store_ceiling.Goals as goal

pub returns-clause-any_moment : goal.returns-clause-any_moment
returns-clause-any_moment g c = λ bytes bodies kept small.
    let old = c.args.journal.now in
    let below : c.args.journal.now.used < c.args.journal.now.slots = omega (arith, c.if-used-slots.false, c.used.ensures.used, c.slots.ensures.slots, c.used.ensures.within) in
    subst (λ full. LeavesOnly (g.B.Disk.state c.args.journal.now.disk) (g.B.Disk.state c.put.new.self.disk)
    (SaysOldOrNew c.args.journal.now.begin c.args.journal.now.slots c.args.journal.now.generation bodies
    (raised_generation full c.args.journal.now.generation) (raised_bodies full bodies (c.args.ceiling, 0))))
    (sym (not_all_used old.used old.slots below)) (c.put.ensures.any_moment bytes bodies kept below)

pub returns-clause-changes : goal.returns-clause-changes
returns-clause-changes g c =
    let old = c.args.journal.now in
    let below : c.args.journal.now.used < c.args.journal.now.slots = omega (arith, c.if-used-slots.false, c.used.ensures.used, c.slots.ensures.slots, c.used.ensures.within) in
    put_changes old.begin old.slots old.used old.second below c.put.ensures.changes
