use Rattle.field_program.proofs.First.{AreEnding}
use Rattle.field_program.proofs.slots.Slots.end_first.Given as goal

abbrev pub invariant-loop-wire : goal.invariant-loop-wire
invariant-loop-wire l = AreEnding l.program l.ends l.wire l.initial.self l.self
