use Rattle.std.proofs.Common.{◌+◌, length, take}
use Rattle.field_program.proofs.Ends.{AreOpenedUpTo}
use Rattle.field_program.proofs.slots.ends_of.Given as goal

abbrev pub invariant-loop-wire : goal.invariant-loop-wire
invariant-loop-wire l = AreOpenedUpTo (length l.program.steps + 1) (take l.wire-index l.program.opened) l.initial.ends.items l.ends.items
