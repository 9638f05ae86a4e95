use Rattle.std.proofs.Common.{◌≡◌, ◌≤◌, ◌-◌, ℕ, List, Some, None, IfSome, ◌<◌}
use Rattle.zk_port.specs.Disks.{Stays}
use Rattle.lease_journal.specs.Causes.{IsScanned}
use Rattle.lease_journal.specs.Scans.{HasRead}
use Rattle.lease_journal.proofs.area.read_slots.Given as goal

abbrev pub invariant-loop-used : goal.invariant-loop-used
invariant-loop-used g l = record {
  used : l.used ≤ l.slots;
  stays : Stays (g.B.Disk.state l.fn.disk) (g.B.Disk.state l.disk);
  count : (g.B.Disk.state l.disk).faults ≡ (g.B.Disk.state l.fn.disk).faults;
  scanned : (bytes : List ℕ) → (g.B.Disk.state l.fn.disk).content ≡ Some bytes → IsScanned l.kind l.total l.at l.used l.last l.bad bytes;
  read : l.bad ≡ None → HasRead l.kind l.total l.used l.last;
  bad : IfSome l.bad (λ slot. slot < l.used);
}

abbrev pub decreases-loop-used : goal.decreases-loop-used
decreases-loop-used g l = l.slots - l.used
