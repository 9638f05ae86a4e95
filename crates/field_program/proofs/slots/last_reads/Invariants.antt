use Rattle.field_program.specs.Slotting.{AreLastReads}
use Rattle.field_program.proofs.slots.last_reads.Given as goal

abbrev pub invariant-loop-k : goal.invariant-loop-k
invariant-loop-k l = AreLastReads l.program l.k l.last.items
