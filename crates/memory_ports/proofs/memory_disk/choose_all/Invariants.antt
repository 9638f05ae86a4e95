use Rattle.std.proofs.Common.{◌≡◌, length}
use Rattle.memory_ports.specs.Epochs.{left_by_all}
use Rattle.memory_ports.proofs.memory_disk.choose_all.Given as goal

abbrev pub invariant-loop-leftovers : goal.invariant-loop-leftovers
invariant-loop-leftovers l = record {
  chosen : left_by_all l.leftovers l.ranges l.content l.image.items
      ≡ left_by_all l.fn.leftovers l.fn.epoch.ranges.items l.fn.content l.fn.epoch.base.items;
}

abbrev pub decreases-loop-leftovers : goal.decreases-loop-leftovers
decreases-loop-leftovers l = length l.leftovers
