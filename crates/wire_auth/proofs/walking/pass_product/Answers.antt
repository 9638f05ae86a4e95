use Rattle.std.proofs.Common.{◌+◌, ◌≤◌, arith}
use Rattle.field_program.specs.Steps.{step_equation}
use Rattle.field_program.proofs.Counts.{few_steps}
use Rattle.wire_auth.proofs.HeldNumbers.{meets_at}
use Rattle.wire_auth.proofs.Along.{IsNextStep, next_there, next_step, along_next, none_taken, taken_one}
use Rattle.wire_auth.proofs.walking.pass_product.Goals as goal

pub returns-then-next-inputs-2-clause-along : goal.returns-then-next-inputs-2-clause-along
returns-then-next-inputs-2-clause-along g c =
    let first = none_taken c.args.program.now.steps c.args.steps (c.requires.along.checks (omega (arith, c.if-next-inputs-2.true, c.inputs-inputs.ensures.count))) in
    along_next c.args.program.now c.args.steps c.pass_linear.result (c.args.next + 1) (omega (arith, c.if-next-inputs.false, c.inputs-inputs.ensures.count))
    (omega (arith, c.requires.more)) c.pass_linear.ensures.upto
    (omega (arith, first, c.if-next-inputs.false, c.if-next-inputs-2.true, c.inputs-inputs.ensures.count)) c.pass_linear.ensures.taken c.pass_linear.ensures.waits

pub returns-then-next-inputs-2-clause-held : goal.returns-then-next-inputs-2-clause-held
returns-then-next-inputs-2-clause-held g c which is wires given meets number held = c.pass_linear.ensures.held which is wires given meets held

pub step-step-requires : goal.step-step-requires
step-step-requires g c = next_there c.args.program.now c.args.steps c.args.next c.inputs-inputs.ensures.held c.requires.along
    (omega (arith, c.if-next-inputs-2.false, c.inputs-inputs.ensures.count)) c.requires.more

pub follow_step-requires-clause-there : goal.follow_step-requires-clause-there
follow_step-requires-clause-there g c = next_there c.args.program.now c.args.steps c.args.next c.inputs-inputs.ensures.held c.requires.along
    (omega (arith, c.if-next-inputs-2.false, c.inputs-inputs.ensures.count)) c.requires.more

pub overflow_add-steps : goal.overflow_add-steps
overflow_add-steps g c =
    let there = next_there c.args.program.now c.args.steps c.args.next c.inputs-inputs.ensures.held c.requires.along
    (omega (arith, c.if-next-inputs-2.false, c.inputs-inputs.ensures.count)) c.requires.more in
    let few = few_steps c.args.program.now c.inputs-inputs.ensures.held.formed in
    omega (arith, there, few, c.inputs-inputs.ensures.held.wires)

pub pass_linear-requires-2-clause-from : goal.pass_linear-requires-2-clause-from
pass_linear-requires-2-clause-from g c =
    let there = next_there c.args.program.now c.args.steps c.args.next c.inputs-inputs.ensures.held c.requires.along
    (omega (arith, c.if-next-inputs-2.false, c.inputs-inputs.ensures.count)) c.requires.more in omega (arith, there)

pub returns-clause-along : goal.returns-clause-along
returns-clause-along g c =
    along_next c.args.program.now (c.args.steps + 1) c.pass_linear-2.result (c.args.next + 1) (omega (arith, low)) (omega (arith, c.requires.more)) c.pass_linear-2.ensures.upto
    (taken_one c.args.program.now c.args.steps c.args.next (step_equation c.step-step.result) c.requires.along low c.step-step.ensures.step is.one)
    c.pass_linear-2.ensures.taken c.pass_linear-2.ensures.waits
  where
    low : c.args.program.now.inputs ≤ c.args.next
    low = omega (arith, c.if-next-inputs-2.false, c.inputs-inputs.ensures.count)

    is : IsNextStep c.args.program.now c.args.steps c.args.next (step_equation c.step-step.result)
    is = next_step c.args.program.now c.args.steps c.args.next c.step-step.result c.inputs-inputs.ensures.held c.requires.along low c.requires.more c.step-step.ensures.step

pub returns-clause-held : goal.returns-clause-held
returns-clause-held g c which is wires given meets number held =
    c.pass_linear-2.ensures.held which is wires given meets
    (c.follow_step.ensures.held which is wires given (step_equation c.step-step.result) c.step-step.ensures.step
    (meets_at c.args.program.now (g.N.Carried.part which c.args.one) c.args.steps wires given (step_equation c.step-step.result) meets c.step-step.ensures.step)
    (next.takes given (g.N.Carried.part which c.args.number) number) held)
  where
    next : IsNextStep c.args.program.now c.args.steps c.args.next (step_equation c.step-step.result)
    next = next_step c.args.program.now c.args.steps c.args.next c.step-step.result c.inputs-inputs.ensures.held c.requires.along
        (omega (arith, c.if-next-inputs-2.false, c.inputs-inputs.ensures.count)) c.requires.more c.step-step.ensures.step
