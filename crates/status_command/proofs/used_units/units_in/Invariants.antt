use Rattle.std.proofs.Common.{◌≡◌, take}
use Rattle.std.specs.Prelude.{sum_by}
use Rattle.status_command.specs.StatusRuns.{units_of}
use Rattle.status_command.proofs.used_units.units_in.Given as goal

abbrev pub invariant-loop-range : goal.invariant-loop-range
invariant-loop-range l = l.units ≡ sum_by units_of (take l.range-index l.ranges)
