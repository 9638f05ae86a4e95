use Rattle.std.proofs.Common.{◌≡◌, ◌≤◌, ◌+◌, ◌-◌, ◌*◌, ◌^◌, ℕ, List, length, min, sum_by, Some}
use Rattle.zk_port.specs.Disks.{Stays}
use Rattle.lease_journal.specs.Journals.{first_bodies}
use Rattle.twin_journal.proofs.starting.claimed_in.Given as goal

abbrev pub invariant-loop-slot : goal.invariant-loop-slot
invariant-loop-slot g l = record {
  stays : Stays (g.B.Disk.state l.fn.disk) (g.B.Disk.state l.disk);
  count : (g.B.Disk.state l.disk).faults ≡ (g.B.Disk.state l.fn.disk).faults;
  units : (bytes : List ℕ) → (g.B.Disk.state l.fn.disk).content ≡ Some bytes → l.at + 32 * l.used ≤ length bytes
      → l.units ≡ min (2 ^ 64 - 1) (sum_by (λ (body : ℕ × ℕ). body.1 - body.0) (first_bodies l.at l.slot bytes));
}
