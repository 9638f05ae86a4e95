use Rattle.std.proofs.Common.{◌≡◌, ◌≤◌, ℕ, List, length, Some}
use Rattle.zk_port.specs.Disks.{Stays}
use Rattle.claim_store.specs.ClaimedRanges.{RiseFrom}
use Rattle.lease_journal.specs.Twins.{area_at}
use Rattle.claim_store.specs.Claims.{AreClaims}
use Rattle.claim_store.proofs.SlotBySlot.{AreReadTo}
use Rattle.claim_store.proofs.reading.read_claims.Given as goal

abbrev pub invariant-loop-slot : goal.invariant-loop-slot
invariant-loop-slot g l = record {
  whole : l.journal.fault ≡ 0;
  state : l.journal ≡ record l.fn.journal { disk = l.journal.disk; fault = l.journal.fault };
  stays : Stays (g.B.Disk.state l.fn.journal.disk) (g.B.Disk.state l.journal.disk);
  faults : (g.B.Disk.state l.journal.disk).faults ≡ (g.B.Disk.state l.fn.journal.disk).faults;
  few : length l.ranges.items ≤ l.slot;
  rising : RiseFrom 0 l.ranges.items;
  sound : AreClaims l.total l.ranges.items;
  read : (bytes : List ℕ) → (g.B.Disk.state l.fn.journal.disk).content ≡ Some bytes
      → AreReadTo l.total (area_at l.fn.journal.begin l.fn.journal.slots l.fn.journal.second) l.slot l.ranges.items bytes;
}
