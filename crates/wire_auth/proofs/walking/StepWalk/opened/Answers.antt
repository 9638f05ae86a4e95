use Rattle.std.proofs.Common.{◌≤◌, ◌<◌, length, ap, subst, sym, ◌∙◌, arith}
use Rattle.std.specs.Prelude.{slice_index}
use Rattle.wire_auth.specs.Walks.{Walking, Follows}
use Rattle.wire_auth.proofs.Along.{opened_after}
use Rattle.wire_auth.proofs.HeldNumbers.{read_slot}
use Rattle.wire_auth.proofs.walking.StepWalk.opened.Goals as goal

pub index-requires : goal.index-requires
index-requires g c =
    let within = (opened_after c.self.inside.program.now c.self.inside.plan.now c.self.invariant.1 c.self.inside.steps c.self.inside.met c.args.o c.opened_slot.result
    c.products-products.ensures.held c.self.invariant.0 (subst (λ (w : Walking g.row.N.Denot). length w.program.products ≤ w.met) (sym c.self.view_is) c.requires.done)
    (subst (λ (w : Walking g.row.N.Denot). c.args.o < length w.program.opened) (sym c.self.view_is) c.requires.there) c.opened_slot.ensures).2 in
    omega (arith, within, c.self.invariant.2, c.self.inside.slots.ok.0)

pub returns : goal.returns
returns g c which wires given follows =
    let before = subst (λ (w : Walking g.row.N.Denot). Follows (g.N.Carried.part which) w wires given) (sym c.self.view_is) follows in
    let slot = opened_after c.self.inside.program.now c.self.inside.plan.now before.plan c.self.inside.steps c.self.inside.met c.args.o c.opened_slot.result
    c.products-products.ensures.held c.self.invariant.0 (subst (λ (w : Walking g.row.N.Denot). length w.program.products ≤ w.met) (sym c.self.view_is) c.requires.done)
    (subst (λ (w : Walking g.row.N.Denot). c.args.o < length w.program.opened) (sym c.self.view_is) c.requires.there) c.opened_slot.ensures in
    read_slot (g.N.Carried.part which) c.self.inside.slots.items c.opened_slot.result (slice_index before.plan.places (slice_index c.self.inside.program.now.opened c.args.o))
    (slice_index wires (slice_index c.self.inside.program.now.opened c.args.o)) c.index.result.now (let within = slot.2 in omega (arith, within, c.self.invariant.2)) c.index.ensures
    slot.0 (before.held (slice_index c.self.inside.program.now.opened c.args.o) slot.1)
    ∙ ap (λ (w : Walking g.row.N.Denot). slice_index wires (slice_index w.program.opened c.args.o)) c.self.view_is
