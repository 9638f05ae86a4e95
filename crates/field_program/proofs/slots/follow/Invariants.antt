use Rattle.field_program.specs.Slotting.{AreSlotsUpTo, AreNoted}
use Rattle.field_program.proofs.slots.follow.Given as goal

abbrev pub invariant-loop-k : goal.invariant-loop-k
invariant-loop-k l = record {
  slots : AreSlotsUpTo l.program l.ends l.k l.slots;
  noted : AreNoted l.program l.k l.slots l.steps.items;
}
