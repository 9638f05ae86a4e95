use Rattle.std.proofs.Common.{◌≡◌, ◌<◌, ◌+◌, ◌*◌, ◌^◌, length, IfSome, ap, sym, subst, arith}
use Rattle.zk_port.specs.Disks.{DiskState}
use Rattle.lease_journal.specs.Keeps.{ChangesAt}
use Rattle.lease_journal.proofs.Keeping.{changes_sync, changes_wider, changes_write, steps_written}
use Rattle.twin_journal.specs.Compactions.{IsAreaWritten}
use Rattle.twin_journal.proofs.AreaWrites.{IsWriting, area_writing, area_written}
use Rattle.twin_journal.proofs.compacting.write_area.Given.{Over}
use Rattle.twin_journal.proofs.compacting.write_area.Goals.{After-sync, After-write_slots}
use Rattle.twin_journal.proofs.compacting.write_area.Goals as goal

-- the generation was written, and a change of the slots came after it
writing : (g : Over) (c : After-write_slots g) (new : DiskState)
    → ChangesAt (c.args.to.head + 32) (32 * c.args.to.slots) (g.B.Disk.state c.write_at.new.self) new
    → IsWriting c.args.to.head c.args.to.slots (g.B.Disk.state c.args.disk.now) new
writing g c new later = area_writing c.args.to.head c.args.to.slots (length c.to_le_bytes.result) (ap length c.to_le_bytes.ensures)
    (changes_write c.args.to.head (length c.to_le_bytes.result) (g.met.B.Disk.only_now c.args.disk.now) c.write_at.ensures.steps
    (steps_written c.args.to.head c.to_le_bytes.result _ _ c.in_ok-write_at.ensures.written))
    later

-- which was synced
synced : (g : Over) (c : After-sync g) → ChangesAt (c.args.to.head + 32) (32 * c.args.to.slots) (g.B.Disk.state c.write_at.new.self) (g.B.Disk.state c.sync.new.self)
synced g c = changes_sync (c.args.to.head + 32) (32 * c.args.to.slots) c.write_slots.ensures.changes c.sync.ensures.stays

pub returns-in_err-write_at-clause-changes : goal.returns-in_err-write_at-clause-changes
returns-in_err-write_at-clause-changes g c =
    let size : length c.to_le_bytes.result ≡ 8 = ap length c.to_le_bytes.ensures in
    let first = changes_write c.args.to.head (length c.to_le_bytes.result) (g.met.B.Disk.only_now c.args.disk.now) c.write_at.ensures.steps c.in_err-write_at.ensures.torn in
    changes_wider c.args.to.head (length c.to_le_bytes.result) c.args.to.head (32 * (c.args.to.slots + 1)) (omega arith) (omega (arith, size)) first

pub returns-in_err-filled-clause-gate : goal.returns-in_err-filled-clause-gate
returns-in_err-filled-clause-gate g c = (writing g (goal.at.returns-in_err-filled-clause-gate g c).After-write_slots _ c.write_slots.ensures.changes).gate

pub returns-in_err-filled-clause-changes : goal.returns-in_err-filled-clause-changes
returns-in_err-filled-clause-changes g c = (writing g (goal.at.returns-in_err-filled-clause-changes g c).After-write_slots _ c.write_slots.ensures.changes).changes

pub returns-in_err-sync-clause-gate : goal.returns-in_err-sync-clause-gate
returns-in_err-sync-clause-gate g c = (writing g (goal.at.returns-in_err-sync-clause-gate g c).After-write_slots _ (synced g (goal.at.returns-in_err-sync-clause-gate g c).After-sync)).gate

pub returns-in_err-sync-clause-changes : goal.returns-in_err-sync-clause-changes
returns-in_err-sync-clause-changes g c = (writing g (goal.at.returns-in_err-sync-clause-changes g c).After-write_slots _ (synced g (goal.at.returns-in_err-sync-clause-changes g c).After-sync)).changes

pub returns-clause-written : goal.returns-clause-written
returns-clause-written g c =
    λ bytes is fits.
    let to = c.args.to in
    let small : c.args.to.generation < 2 ^ 64 = omega arith in
    let bodies = g.F.Bodies.rest c.args.next.now in
    let told = area_written to.head to.slots to.generation small c.to_le_bytes.result c.to_le_bytes.ensures bodies bytes fits
    (g.B.Disk.state c.args.disk.now).content (g.B.Disk.state c.write_at.new.self).content (g.B.Disk.state c.write_slots.new.disk).content
    is c.in_ok-write_at.ensures.written c.in_ok-filled.ensures.filled c.write_slots.ensures.changes.content in
    subst (λ o. IfSome o (IsAreaWritten to.head to.slots to.generation bodies)) (sym c.sync.ensures.stays.content) told

pub returns-clause-gate : goal.returns-clause-gate
returns-clause-gate g c = (writing g (goal.at.returns-clause-gate g c).After-write_slots _ (synced g (goal.at.returns-clause-gate g c).After-sync)).gate

pub returns-clause-changes : goal.returns-clause-changes
returns-clause-changes g c = (writing g (goal.at.returns-clause-changes g c).After-write_slots _ (synced g (goal.at.returns-clause-changes g c).After-sync)).changes
