use Rattle.std.proofs.Common.{◌≡◌, ◌+◌, subst, sym, ap, arith, ◌∙◌}
use Rattle.std.specs.Prelude.{Some, slice_get, slice_index}
use Rattle.zk_model.specs.Slots.{IsLive}
use Rattle.field_program.specs.Counts.{unchecked}
use Rattle.wire_auth.specs.Walks.{Walking, Follows}
use Rattle.wire_auth.proofs.Along.{factors_live}
use Rattle.wire_auth.proofs.HeldNumbers.{read_slot}
use Rattle.wire_auth.proofs.walking.StepWalk.factors.Goals as goal

pub returns-clause-some : goal.returns-clause-some
returns-clause-some g c which wires given product follows stands = (
  read_slot (g.N.Carried.part which) c.self.inside.slots.items c.factor_slots-a.result.0 (slice_index before.plan.places product.a) (slice_index wires product.a)
      c.index.result.now (let within = c.factor_slots-a.ensures.within.0 in omega (arith, within, c.self.invariant.2)) c.index.ensures slots.0
      (before.held product.a live.0),
  read_slot (g.N.Carried.part which) c.self.inside.slots.items c.factor_slots-a.result.1 (slice_index before.plan.places product.b) (slice_index wires product.b)
      c.index-2.result.now (let within = c.factor_slots-a.ensures.within.1 in omega (arith, within, c.self.invariant.2)) c.index-2.ensures slots.1
      (before.held product.b live.1),
)
  where
    before : Follows (g.N.Carried.part which)
        (record { program = c.self.inside.program.now; plan = c.self.inside.plan.now; one = c.self.inside.one; slots = c.self.inside.slots.items; steps = c.self.inside.steps; met = c.self.inside.met })
        wires given
    before = subst (λ (w : Walking g.row.N.Denot). Follows (g.N.Carried.part which) w wires given) (sym c.self.view_is) follows

    here : slice_get c.self.inside.program.now.products c.self.inside.met ≡ Some product
    here = ap (λ (w : Walking g.row.N.Denot). slice_get w.program.products w.met) c.self.view_is ∙ stands

    number : product.c ≡ unchecked c.self.inside.program.now + c.self.inside.met
    number = c.products.ensures.held.numbered c.self.inside.met product here

    live : IsLive c.self.inside.program.now c.self.inside.steps product.a × IsLive c.self.inside.program.now c.self.inside.steps product.b
    live = factors_live c.self.inside.program.now c.self.inside.steps (unchecked c.self.inside.program.now + c.self.inside.met) c.self.inside.met product
        c.products.ensures.held c.self.invariant.0 here number

    slots : (c.factor_slots-a.result.0 ≡ slice_index before.plan.places product.a) × (c.factor_slots-a.result.1 ≡ slice_index before.plan.places product.b)
    slots = c.factor_slots-a.ensures.factors before.plan c.self.inside.met product here
        (number ∙ ap (λ (w : Walking g.row.N.Denot). unchecked w.program + w.met) c.self.view_is ∙ sym c.next_given-next.ensures.number)
