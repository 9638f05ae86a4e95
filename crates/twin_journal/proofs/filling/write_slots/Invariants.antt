use Rattle.std.proofs.Common.{◌≡◌, ◌≤◌, ◌*◌, ℕ, List, length, drop, min, Some, IfSome}
use Rattle.lease_journal.specs.Journals.{body_before}
use Rattle.lease_journal.specs.Keeps.{ChangesAt}
use Rattle.twin_journal.specs.Filling.{IsFilled}
use Rattle.twin_journal.proofs.filling.write_slots.Given as goal

abbrev pub invariant-loop-slot : goal.invariant-loop-slot
invariant-loop-slot g l = record {
  rest : g.F.Bodies.rest l.next ≡ drop l.slot (g.F.Bodies.rest l.fn.next);
  used : l.filled.used ≡ min l.slot (length (g.F.Bodies.rest l.fn.next));
  last : l.filled.last ≡ body_before (g.F.Bodies.rest l.fn.next) (min l.slot (length (g.F.Bodies.rest l.fn.next)));
  changes : ChangesAt l.at (32 * l.slots) (g.B.Disk.state l.fn.disk) (g.B.Disk.state l.disk);
  filled : (bytes : List ℕ) → (g.B.Disk.state l.fn.disk).content ≡ Some bytes → l.at ≤ length bytes
      → IfSome (g.B.Disk.state l.disk).content (IsFilled l.at l.slot (g.F.Bodies.rest l.fn.next));
  count : (g.B.Disk.state l.disk).faults ≡ (g.B.Disk.state l.fn.disk).faults;
}
