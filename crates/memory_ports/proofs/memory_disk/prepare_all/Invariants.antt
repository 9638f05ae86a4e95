use Rattle.std.proofs.Common.{◌≡◌, ◌≤◌, ◌-◌, true, vec_len}
use Rattle.std.specs.List.{list_all}
use Rattle.memory_ports.specs.Epochs.{is_prepared}
use Rattle.memory_ports.proofs.memory_disk.prepare_all.Given as goal

abbrev pub invariant-loop-alloc : goal.invariant-loop-alloc
invariant-loop-alloc l = record { count : vec_len l.epochs ≤ l.calls; prepared : list_all (is_prepared l.room l.calls) l.epochs.items ≡ true }

abbrev pub decreases-loop-alloc : goal.decreases-loop-alloc
decreases-loop-alloc l = l.calls - vec_len l.epochs
