use Rattle.std.proofs.Common.{◌≡◌, ℕ, List, All, map, length, take}
use Rattle.zk_model.specs.Program.{MeetsStep}
use Rattle.zk_model.specs.Slots.{IsPlanOf}
use Rattle.field_program.specs.Programs.{values_taken}
use Rattle.wire_auth.specs.Walks.{Part, AreHeldAt}
use Rattle.wire_auth.proofs.walking.pass_linear.Given as goal

abbrev pub invariant-loop-k : goal.invariant-loop-k
invariant-loop-k g l = record {
  whole : length l.slots.items ≡ l.plan.slots;
  taken : values_taken (take l.k l.program.steps) ≡ values_taken (take l.from l.program.steps);
  held : (which : Part) (is : IsPlanOf l.program l.plan) (wires given : List ℕ) → All (MeetsStep (g.N.Carried.part which l.one) wires given) l.program.steps
      → AreHeldAt l.program is.places l.from wires (map (g.N.Carried.part which) l.initial.slots.items)
      → AreHeldAt l.program is.places l.k wires (map (g.N.Carried.part which) l.slots.items);
}
