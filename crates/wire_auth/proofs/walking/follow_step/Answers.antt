use Rattle.std.proofs.Common.{◌≡◌, ◌<◌, List, map, length, arith, subst, sym, ap, ◌∙◌}
use Rattle.std.specs.Prelude.{slice_get}
use Rattle.std.proofs.lemmas.List.{length-map, map-set}
use Rattle.zk_model.specs.Program.{MeetsStep}
use Rattle.zk_model.specs.Slots.{AreSlotsOf}
use Rattle.field_program.specs.Plans.{named}
use Rattle.field_program.specs.Steps.{step_equation}
use Rattle.field_program.proofs.Live.{some_same}
use Rattle.wire_auth.specs.Walks.{AreReadIn, AreSlotsWithin, IsTakenBy}
use Rattle.wire_auth.proofs.Along.{slots_there}
use Rattle.wire_auth.proofs.HeldNumbers.{read_in, taken_is, held_more}
use Rattle.wire_auth.proofs.walking.follow_step.Goals as goal

pub step_slots-at-requires : goal.step_slots-at-requires
step_slots-at-requires g c = omega (arith, c.requires.there, c.requires.plan.one_each)

pub step_number-number-requires : goal.step_number-number-requires
step_number-number-requires g c =
    subst (λ n. AreSlotsWithin n c.step_slots-at.result) (sym (ap length c.deref.ensures.value ∙ c.requires.whole))
    (slots_there c.args.program.now c.args.plan.now c.args.k (named c.step_slots-at.result) c.requires.plan c.step_slots-at.ensures)

pub index_mut-requires : goal.index_mut-requires
index_mut-requires g c =
    let out = (slots_there c.args.program.now c.args.plan.now c.args.k (named c.step_slots-at.result) c.requires.plan c.step_slots-at.ensures).0 in
    omega (arith, out, c.requires.whole, c.deref.ensures.len, ap length c.deref.ensures.value)

pub returns-clause-held : goal.returns-clause-held
returns-clause-held g c which is wires given equation stands meets taken held =
    held_more c.args.program.now c.args.plan.now is c.args.k (g.N.Carried.part which c.step_number-number.result) c.step-step.result c.step_slots-at.result wires
    (map (g.N.Carried.part which) c.args.slots.now.items) _ c.step-step.ensures.step of within
    (c.step_number-number.ensures which wires given reads
    (taken_is given c.step-step.result (g.N.Carried.part which c.args.taken) (subst (λ s. IsTakenBy given s (g.N.Carried.part which c.args.taken)) same taken))
    ∙ sym (subst (λ s. MeetsStep (g.N.Carried.part which c.args.one) wires given s) same meets))
    (map-set (g.N.Carried.part which) c.args.slots.now.items c.step_slots-at.result.out c.step_number-number.result) held
  where
    same : equation ≡ step_equation c.step-step.result
    same = some_same equation (step_equation c.step-step.result) (slice_get c.args.program.now.steps c.args.k) stands c.step-step.ensures.step

    of : AreSlotsOf c.args.program.now is.places (step_equation c.step-step.result) (named c.step_slots-at.result)
    of = is.steps c.args.k (step_equation c.step-step.result) (named c.step_slots-at.result) c.step-step.ensures.step c.step_slots-at.ensures

    within : c.step_slots-at.result.out < length (map (g.N.Carried.part which) c.args.slots.now.items)
    within =
        let out = (slots_there c.args.program.now c.args.plan.now c.args.k (named c.step_slots-at.result) is c.step_slots-at.ensures).0 in
        omega (arith, out, c.requires.whole, length-map c.args.slots.now.items (g.N.Carried.part which))

    reads : AreReadIn c.step_slots-at.result (map (g.N.Carried.part which) c.deref.result.now) wires c.step-step.result
    reads = subst (λ (slots : List g.row.N.Denot). AreReadIn c.step_slots-at.result (map (g.N.Carried.part which) slots) wires c.step-step.result) (sym c.deref.ensures.value)
        (read_in c.args.program.now is.places c.args.k c.step-step.result c.step_slots-at.result wires (map (g.N.Carried.part which) c.args.slots.now.items)
        c.step-step.ensures.held c.step-step.ensures.step c.step-step.ensures.factors of held)
