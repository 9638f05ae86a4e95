use Rattle.std.proofs.Common.{◌+◌, arith}
use Rattle.field_program.specs.Plans.{named}
use Rattle.wire_auth.proofs.Along.{next_there, waiting_slots, slots_there}
use Rattle.wire_auth.proofs.HeldNumbers.{first_slot}
use Rattle.wire_auth.proofs.walking.factor_slots.Goals as goal

pub returns-then-next-inputs-clause-within : goal.returns-then-next-inputs-clause-within
returns-then-next-inputs-clause-within c =
    let below = first_slot c.args.program.now c.args.plan.now (c.public.result + c.args.next) c.requires.plan
    (omega (arith, c.public.ensures.count, c.if-next-inputs.true, c.inputs.ensures.count)) in
    (below, below)

pub step_slots-at-requires : goal.step_slots-at-requires
step_slots-at-requires c =
    let there = next_there c.args.program.now c.args.steps c.args.next c.inputs.ensures.held c.requires.along
    (omega (arith, c.if-next-inputs.false, c.inputs.ensures.count)) c.requires.more in omega (arith, there, c.requires.plan.one_each)

pub returns-clause-within : goal.returns-clause-within
returns-clause-within c =
    let there = slots_there c.args.program.now c.args.plan.now c.args.steps (named c.step_slots-at.result) c.requires.plan c.step_slots-at.ensures in
    (there.1, there.2)

pub returns-clause-factors : goal.returns-clause-factors
returns-clause-factors c is i product stands number =
    waiting_slots c.args.program.now c.args.plan.now is c.args.steps c.args.next i (named c.step_slots-at.result) product c.inputs.ensures.held c.requires.along
    (omega (arith, c.if-next-inputs.false, c.inputs.ensures.count)) stands number c.step_slots-at.ensures
