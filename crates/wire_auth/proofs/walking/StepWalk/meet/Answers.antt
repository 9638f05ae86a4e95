use Rattle.std.proofs.Common.{◌+◌, ap, arith, length, subst, sym, ◌∙◌}
use Rattle.std.specs.Prelude.{slice_index}
use Rattle.field_program.specs.Counts.{unchecked}
use Rattle.wire_auth.specs.Walks.{Walking, Follows}
use Rattle.wire_auth.proofs.walking.StepWalk.meet.Goals as goal

pub overflow_add-self : goal.overflow_add-self
overflow_add-self g c = omega (
  arith,
  c.products-products.ensures.held.products,
  ap (λ (w : Walking g.row.N.Denot). w.met) c.self.view_is,
  ap (λ (w : Walking g.row.N.Denot). length w.program.products) c.self.view_is,
  c.requires,
)

pub returns-clause-follows : goal.returns-clause-follows
returns-clause-follows g c which wires given number follows =
    let before = subst (λ (w : Walking g.row.N.Denot). Follows (g.N.Carried.part which) w wires given) (sym c.self.view_is) follows in
    record {
      equations = before.equations;
      plan = before.plan;
      held = c.pass_product-self-inside.ensures.held which before.plan wires given before.equations
          (number ∙ ap (λ (w : Walking g.row.N.Denot). slice_index given (unchecked w.program + w.met)) (sym c.self.view_is)
          ∙ ap (λ n. slice_index given (n + c.self.inside.met)) (sym c.unchecked.ensures.count)) before.held;
    }
