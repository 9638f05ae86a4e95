use Rattle.std.proofs.Common.{◌≡◌, ◌≤◌, ◌-◌, ℕ, List, length, Some}
use Rattle.zk_port.specs.Disks.{Stays}
use Rattle.twin_journal.proofs.lengths.end_between.Given as goal

abbrev pub invariant-loop-low : goal.invariant-loop-low
invariant-loop-low g l = record {
  order : l.low ≤ l.high;
  top : l.high ≤ l.most;
  within : l.least ≤ l.low;
  stays : Stays (g.B.Disk.state l.fn.disk) (g.B.Disk.state l.disk);
  count : (g.B.Disk.state l.disk).faults ≡ (g.B.Disk.state l.fn.disk).faults;
  low : (bytes : List ℕ) → (g.B.Disk.state l.fn.disk).content ≡ Some bytes → l.least ≤ length bytes → l.low ≤ length bytes;
  high : (bytes : List ℕ) → (g.B.Disk.state l.fn.disk).content ≡ Some bytes → length bytes ≤ l.most → length bytes ≤ l.high;
}

abbrev pub decreases-loop-low : goal.decreases-loop-low
decreases-loop-low g l = l.high - l.low
