use Rattle.std.proofs.Common.{map, ap, ◌∙◌}
use Rattle.std.specs.Prelude.{slice_index}
use Rattle.zk_model.specs.Slots.{IsPlanOf}
use Rattle.field_program.specs.Plans.{plan_of}
use Rattle.field_program.proofs.Counts.{most_live}
use Rattle.field_program.proofs.Noted.{plan_made}
use Rattle.field_program.proofs.plan.SlotPlan.of.Goals as goal

made : (c : goal.After-drop-followed-3)
    → IsPlanOf c.args.program.now (plan_of c.in_ok-followed.followed.slots.count c.in_ok-followed.followed.steps.items c.in_ok-opened.opened.items)
made c = plan_made c.args.program.now c.in_ok-followed.ensures.0 c.in_ok-followed.followed c.in_ok-opened.opened.items c.in_ok-followed.ensures.1
    (c.in_ok-opened.ensures ∙ ap (λ places. map (slice_index places) c.args.program.now.opened) c.deref.ensures.value)

pub returns-clause-plan : goal.returns-clause-plan
returns-clause-plan c = made c

pub returns-clause-slots : goal.returns-clause-slots
returns-clause-slots c = record { most = most_live c.args.program.now _ (made c); reached = c.in_ok-followed.ensures.1.slots.reached }
