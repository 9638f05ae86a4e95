use Rattle.std.proofs.Common.{◌≡◌, ◌∙◌, ℕ, List, arith, length, ap, refl}
use Rattle.zk_model.specs.Program.{step_value}
use Rattle.field_program.specs.Steps.{step_equation}
use Rattle.wire_auth.proofs.Setting.{reads_within, takes_within, one_more, all_follow}
use Rattle.wire_auth.proofs.carrying.follow.Goals as goal

pub returns-clause-carried : goal.returns-clause-carried
returns-clause-carried c public begun =
    let end : c.loop-k.k ≡ length c.args.program.now.steps =
    omega (arith, c.loop-k.auto.k-end, c.loop-k-test.false, c.steps-k-end.ensures.count) in
    all_follow c.args.program.now c.args.one public c.args.given.now c.args.begun.items c.loop-k.wires.items
    c.loop-k.k end c.loop-k.invariant begun

pub loop-k-preserved : goal.loop-k-preserved
loop-k-preserved c =
    one_more c.args.program.now c.args.one c.args.given.now c.args.begun.items c.loop-k.wires.items _
    c.loop-k.k c.out.result c.step_number-number.result (step_equation c.step-step.result)
    c.step-step.ensures.held.formed c.step-step.ensures.step c.out.ensures
    (c.step_number-number.ensures c.args.given.now c.taken_number.ensures
    ∙ ap (λ (l : List ℕ). step_value c.args.one l c.args.given.now (step_equation c.step-step.result)) c.deref.ensures.value)
    refl c.loop-k.invariant

pub step_number-number-requires : goal.step_number-number-requires
step_number-number-requires c =
    reads_within c.args.program.now c.loop-k.k (length c.deref.result.now) c.step-step.result c.step-step.ensures.held.formed c.step-step.ensures.step
    (ap length c.deref.ensures.value ∙ c.loop-k.invariant.whole)

pub taken_number-requires : goal.taken_number-requires
taken_number-requires c =
    takes_within c.args.program.now c.loop-k.k (length c.args.given.now) c.step-step.result c.step-step.ensures.held.formed c.step-step.ensures.step
    (omega (arith, c.requires.given))
