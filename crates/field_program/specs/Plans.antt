-- Plans that are held.
use Rattle.std.specs.Prelude.{ℕ, List, map}
use Rattle.zk_model.specs.Slots as plans
use Rattle.field_program.specs.declared.plan.StepSlots.{StepSlots}

-- the slots of a step
abbrev pub named : StepSlots → plans.StepSlots
named slots = record { out = slots.out; a = slots.a; b = slots.b }

-- the plan of these parts
abbrev pub plan_of : ℕ → List StepSlots → List ℕ → plans.Plan
plan_of slots steps opened = record { slots = slots; steps = map named steps; opened = opened }
