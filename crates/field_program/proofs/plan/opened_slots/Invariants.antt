use Rattle.std.proofs.Common.{◌≡◌, map, take}
use Rattle.std.specs.Prelude.{slice_index}
use Rattle.field_program.proofs.plan.opened_slots.Given as goal

abbrev pub invariant-loop-wire : goal.invariant-loop-wire
invariant-loop-wire l = l.slots.items ≡ map (slice_index l.places) (take l.wire-index l.program.opened)
