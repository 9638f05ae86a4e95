use Rattle.std.proofs.Common.{◌+◌, ℕ, length, arith, ap, subst, sym, ◌∙◌, length-set}
use Rattle.std.specs.Global.{Vec}
use Rattle.field_program.specs.Slotting.{AreOperandsWithin, AreSlotsUpTo, slots_with}
use Rattle.field_program.specs.Steps.{step_equation}
use Rattle.field_program.proofs.Counts.{few_steps, few_slots}
use Rattle.field_program.proofs.Followed.{operands_within, step_followed}
use Rattle.field_program.proofs.Noted.{operands_keep, step_kept, step_noted}
use Rattle.field_program.proofs.slots.Slots.follow_step.Goals as goal

pub overflow_cast-n : goal.overflow_cast-n
overflow_cast-n c =
    let few = few_steps c.args.program.now c.step-step.ensures.held.formed in
    omega (arith, few, c.requires.there, c.step-step.ensures.held.wires)

pub overflow_add-n : goal.overflow_add-n
overflow_add-n c =
    let few = few_steps c.args.program.now c.step-step.ensures.held.formed in
    omega (arith, few, c.requires.there, c.step-step.ensures.held.wires)

pub take-requires-clause-fits : goal.take-requires-clause-fits
take-requires-clause-fits c =
    let few = few_slots c.args.program.now c.args.self.now.count c.step-step.ensures.held.formed c.requires.before.reached in
    omega (arith, few, c.step-step.ensures.held.wires)

pub end_operands-requires-clause-places : goal.end_operands-requires-clause-places
end_operands-requires-clause-places c =
    subst (λ wires. AreOperandsWithin wires c.operands_of-operands.result)
    (sym (ap (λ (places : Vec ℕ). length places.items) c.in_ok-end.ensures.places ∙ ap length c.take.ensures.places
    ∙ length-set c.args.self.now.places.items c.out-out.result c.take.ensures.slot ∙ c.requires.before.whole))
    (operands_within c.args.program.now c.args.k c.step-step.result c.operands_of-operands.result c.step-step.ensures.held c.step-step.ensures.step
    c.step-step.ensures.factors c.operands_of-operands.ensures)

pub end_operands-requires-clause-ends : goal.end_operands-requires-clause-ends
end_operands-requires-clause-ends c =
    subst (λ wires. AreOperandsWithin wires c.operands_of-operands.result) (sym c.requires.ends.whole)
    (operands_within c.args.program.now c.args.k c.step-step.result c.operands_of-operands.result c.step-step.ensures.held c.step-step.ensures.step
    c.step-step.ensures.factors c.operands_of-operands.ensures)

-- the slots after the step
after : (c : goal.After-slots_with) → AreSlotsUpTo c.args.program.now c.args.ends.now (c.args.k + 1) c.end_operands.new.self
after c =
    step_followed c.args.program.now c.args.ends.now c.args.k c.out-out.result c.step-step.result c.operands_of-operands.result c.args.self.now c.take.new.self c.end.new.self
    c.end_operands.new.self c.step-step.ensures.held c.requires.ends c.step-step.ensures.step c.step-step.ensures.factors c.operands_of-operands.ensures c.out-out.ensures
    c.requires.before c.take.ensures c.in_ok-end.ensures c.in_ok-end_operands.ensures

pub returns-clause-after : goal.returns-clause-after
returns-clause-after c = after c

pub slots_with-requires-clause-operands : goal.slots_with-requires-clause-operands
slots_with-requires-clause-operands c =
    subst (λ wires. AreOperandsWithin wires c.operands_of-operands.result)
    (sym (ap length c.deref.ensures.value
    ∙ ap (λ (places : Vec ℕ). length places.items) ((operands_keep (c.args.k + 1) c.operands_of-operands.result c.args.ends.now c.end.new.self c.end_operands.new.self
    c.in_ok-end_operands.ensures).0 ∙ c.in_ok-end.ensures.places)
    ∙ ap length c.take.ensures.places ∙ length-set c.args.self.now.places.items c.out-out.result c.take.ensures.slot ∙ c.requires.before.whole))
    (operands_within c.args.program.now c.args.k c.step-step.result c.operands_of-operands.result c.step-step.ensures.held c.step-step.ensures.step
    c.step-step.ensures.factors c.operands_of-operands.ensures)

pub returns-clause-kept : goal.returns-clause-kept
returns-clause-kept c =
    step_kept c.args.program.now c.args.ends.now c.args.k c.out-out.result (step_equation c.step-step.result) c.operands_of-operands.result c.args.self.now c.take.new.self
    c.end.new.self c.end_operands.new.self c.step-step.ensures.held.formed c.step-step.ensures.step c.out-out.ensures c.take.ensures c.in_ok-end.ensures c.in_ok-end_operands.ensures

pub returns-clause-noted : goal.returns-clause-noted
returns-clause-noted c =
    step_noted c.args.program.now c.args.ends.now c.args.k c.out-out.result c.step-step.result c.operands_of-operands.result c.end_operands.new.self c.slots_with.result
    c.step-step.ensures.held c.step-step.ensures.step c.step-step.ensures.factors c.operands_of-operands.ensures c.out-out.ensures (after c)
    (c.slots_with.ensures ∙ ap (λ places. slots_with places c.out-out.result c.operands_of-operands.result) c.deref.ensures.value)
