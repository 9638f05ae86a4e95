use Rattle.zk_port.specs.Disks.{Stays}
use Rattle.lease_journal.proofs.Moments.{stays_then}
use Rattle.twin_journal.proofs.starting.locate.Given.{Over}
use Rattle.twin_journal.proofs.starting.locate.Goals.{After-check_length}
use Rattle.twin_journal.proofs.starting.locate.Goals as goal

-- nothing changed up to the test of the length
stays_there : (g : Over) (c : After-check_length g) → Stays (g.B.Disk.state c.args.disk.now) (g.B.Disk.state c.check_length.new.disk)
stays_there g c = stays_then (g.met.B.Disk.counts_now c.args.disk.now) c.read_header.ensures.stays c.check_length.ensures.stays

pub returns-in-Err-check_length-clause-stays : goal.returns-in-Err-check_length-clause-stays
returns-in-Err-check_length-clause-stays g c = stays_there g (goal.at.returns-in-Err-check_length-clause-stays g c).After-check_length

pub returns-in-Ok-read_active-clause-stays : goal.returns-in-Ok-read_active-clause-stays
returns-in-Ok-read_active-clause-stays g c =
    stays_then (g.met.B.Disk.counts_now c.args.disk.now) (stays_there g (goal.at.returns-in-Ok-read_active-clause-stays g c).After-check_length) c.read_active.ensures.stays

pub returns-in-Err-read_active-clause-stays : goal.returns-in-Err-read_active-clause-stays
returns-in-Err-read_active-clause-stays g c =
    stays_then (g.met.B.Disk.counts_now c.args.disk.now) (stays_there g (goal.at.returns-in-Err-read_active-clause-stays g c).After-check_length) c.read_active.ensures.stays
