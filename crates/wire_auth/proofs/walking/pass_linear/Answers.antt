use Rattle.std.proofs.Common.{◌≡◌, [], map, arith, ap, subst, ◌∙◌}
use Rattle.std.specs.Option.{is_some}
use Rattle.field_program.specs.Steps.{step_equation}
use Rattle.wire_auth.specs.Walks.{AreHeldAt}
use Rattle.wire_auth.proofs.HeldNumbers.{takes_none, nothing_taken, meets_at, taken_no_more}
use Rattle.wire_auth.proofs.walking.pass_linear.Goals as goal

pub loop-k-preserved : goal.loop-k-preserved
loop-k-preserved g c = record {
  whole = c.follow_step.ensures.whole;
  taken = taken_no_more c.args.program.now.steps c.loop-k.k (step_equation c.step.result) c.step.ensures.step linear ∙ c.loop-k.invariant.taken;
  held = λ which is wires given meets held. c.follow_step.ensures.held which is wires given (step_equation c.step.result) c.step.ensures.step
      (meets_at c.args.program.now (g.N.Carried.part which c.args.one) c.loop-k.k wires given (step_equation c.step.result) meets c.step.ensures.step)
      (nothing_taken given (step_equation c.step.result) _ linear)
      (c.loop-k.invariant.held which is wires given meets held);
}
  where
    linear : (step_equation c.step.result).given ≡ []
    linear = takes_none c.step.result (c.if-is_some.ensures ∙ ap is_some c.value_taken.ensures)

pub returns-clause-held : goal.returns-clause-held
returns-clause-held g c which is wires given meets held =
    let end : c.loop-k.k ≡ c.steps.result = omega (arith, c.loop-k-test.false, c.loop-k.auto.k-end, c.steps.ensures.count, c.steps-k-end.ensures.count, c.requires.from) in
    subst (λ n. AreHeldAt c.args.program.now is.places n wires (map (g.N.Carried.part which) c.loop-k.slots.items)) end
    (c.loop-k.invariant.held which is wires given meets held)
