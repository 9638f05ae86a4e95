use Rattle.std.proofs.Common.{length}
use Rattle.lease_journal.proofs.Keeping.{changes_sync, changes_write, steps_written}
use Rattle.lease_journal.proofs.storing.store_at.Goals as goal

pub returns-in_err-write_at-clause-changes : goal.returns-in_err-write_at-clause-changes
returns-in_err-write_at-clause-changes g c =
    changes_write c.args.at (length c.args.bytes.now) (g.met.B.Disk.only_now c.args.disk.now) c.write_at.ensures.steps c.in_err-write_at.ensures.torn

pub returns-in_err-sync-clause-changes : goal.returns-in_err-sync-clause-changes
returns-in_err-sync-clause-changes g c =
    changes_sync c.args.at (length c.args.bytes.now)
    (changes_write c.args.at (length c.args.bytes.now) (g.met.B.Disk.only_now c.args.disk.now) c.write_at.ensures.steps
    (steps_written c.args.at c.args.bytes.now _ _ c.in_ok-write_at.ensures.written))
    c.sync.ensures.stays

pub returns-clause-changes : goal.returns-clause-changes
returns-clause-changes g c =
    changes_sync c.args.at (length c.args.bytes.now)
    (changes_write c.args.at (length c.args.bytes.now) (g.met.B.Disk.only_now c.args.disk.now) c.write_at.ensures.steps
    (steps_written c.args.at c.args.bytes.now _ _ c.in_ok-write_at.ensures.written))
    c.sync.ensures.stays
