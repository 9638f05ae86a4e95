use Rattle.std.proofs.Common.{◌≡◌, ◌≤◌, ℕ, List, length, Some}
use Rattle.zk_port.specs.Disks.{Stays}
use Rattle.claim_store.specs.ClaimedRanges.{RiseFrom}
use Rattle.claim_store.specs.Claims.{AreClaims}
use Rattle.claim_store.proofs.SlotBySlot.{AreReadTo}
use Rattle.journal_migration.proofs.reading.read_claims.Given as goal

abbrev pub invariant-loop-slot : goal.invariant-loop-slot
invariant-loop-slot g l = record {
  stays : Stays (g.B.Disk.state l.fn.disk) (g.B.Disk.state l.disk);
  faults : (g.B.Disk.state l.disk).faults ≡ (g.B.Disk.state l.fn.disk).faults;
  few : length l.ranges.items ≤ l.slot;
  rising : RiseFrom 0 l.ranges.items;
  sound : AreClaims l.total l.ranges.items;
  read : (bytes : List ℕ) → (g.B.Disk.state l.fn.disk).content ≡ Some bytes → AreReadTo l.total 64 l.slot l.ranges.items bytes;
}
