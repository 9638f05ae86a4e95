use Rattle.std.proofs.Common.{◌≡◌, ◌∙◌, ℕ, List, arith, length, ap, refl, subst}
use Rattle.zk_model.specs.Program.{step_value}
use Rattle.field_program.specs.Steps.{step_equation}
use Rattle.wire_auth.specs.Sides.{IsGivenTaken}
use Rattle.wire_auth.specs.Values.{given_from}
use Rattle.wire_auth.proofs.Setting.{reads_within}
use Rattle.wire_auth.proofs.Making.{can_be_made, made_more, all_made}
use Rattle.wire_auth.proofs.values.follow_values.Goals as goal

pub step_number-number-requires : goal.step_number-number-requires
step_number-number-requires c =
    reads_within c.args.program.now c.loop-k.k (length c.deref-in-loop-k.result.now) c.step-step.result c.step-step.ensures.held.formed c.step-step.ensures.step
    (ap length c.deref-in-loop-k.ensures.value ∙ c.loop-k.invariant.whole)

pub loop-k-preserved : goal.loop-k-preserved
loop-k-preserved c =
    let given = given_from c.args.program.now c.loop-k.values.items in
    let taken : IsGivenTaken given c.step-step.result c.taken_value-taken.result =
    subst (λ (l : List ℕ). IsGivenTaken (given_from c.args.program.now l) c.step-step.result c.taken_value-taken.result) c.deref.ensures.value c.taken_value-taken.ensures in
    made_more c.args.program.now c.args.begun.items c.loop-k.values.items _
    c.loop-k.k c.out.result c.step_number-number.result (step_equation c.step-step.result)
    (can_be_made c.args.program.now c.step-step.ensures.held) c.step-step.ensures.step c.out.ensures
    (c.step_number-number.ensures given taken
    ∙ ap (λ (l : List ℕ). step_value 1 l given (step_equation c.step-step.result)) c.deref-in-loop-k.ensures.value)
    refl c.loop-k.invariant

pub returns : goal.returns
returns c public inputs counted begun =
    let end : c.loop-k.k ≡ length c.args.program.now.steps =
    omega (arith, c.loop-k.auto.k-end, c.loop-k-test.false, c.steps-k-end.ensures.count) in
    all_made c.args.program.now public inputs c.args.begun.items c.loop-k.values.items
    c.loop-k.k (can_be_made c.args.program.now c.steps-k-end.ensures.held) end counted c.loop-k.invariant begun
