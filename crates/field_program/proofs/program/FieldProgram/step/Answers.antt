use Rattle.std.proofs.Common.{◌<◌, ◌∙◌, arith, length, map, ap, subst, sym}
use Rattle.std.specs.Prelude.{Some, slice_get}
use Rattle.std.proofs.lemmas.List.{length-map}
use Rattle.std.proofs.lemmas.List.Elements.{All-get_or}
use Rattle.zk_model.specs.Program.{Program}
use Rattle.field_program.specs.Rules.{HasFactors, step_of}
use Rattle.field_program.specs.Programs.{program_of}
use Rattle.packed_gates.specs.PackedSteps.{IsRule}
use Rattle.field_program.specs.Steps.{step_equation}
use Rattle.field_program.proofs.Numbered.{has_factors, step_at}
use Rattle.field_program.proofs.program.FieldProgram.step.Goals as goal

-- the rule of step k is there
below : (c : goal.After-step_of) → c.args.k < length c.self.inside.rules.items
below c =
    let step = step_of c.self.inside.inputs c.self.inside.tables in
    omega (arith, c.requires, ap (λ (p : Program). length p.steps) c.self.view_is, length-map c.self.inside.rules.items step, length-map (map step c.self.inside.rules.items) step_equation)

pub returns-clause-step : goal.returns-clause-step
returns-clause-step c =
    ap (λ (p : Program). slice_get p.steps c.args.k) (sym c.self.view_is)
    ∙ step_at c.self.inside.inputs c.self.inside.tables c.self.inside.rules.items c.args.k c.index.result.now (below c)
    ∙ sym (λ i. Some (step_equation (step_of c.self.inside.inputs c.self.inside.tables (c.index.ensures i))))
    ∙ ap (λ s. Some (step_equation s)) (sym c.step_of.ensures)

pub returns-clause-factors : goal.returns-clause-factors
returns-clause-factors c =
    let within : IsRule c.self.inside.tables c.index.result.now =
    subst (IsRule c.self.inside.tables) (sym c.index.ensures)
    (All-get_or (IsRule c.self.inside.tables) c.self.inside.rules.items c.args.k c.index.result.now (below c) c.self.invariant.1) in
    subst (λ (p : Program). HasFactors p c.step_of.result) c.self.view_is
    (subst (HasFactors (program_of c.self.inside.wires c.self.inside.public c.self.inside.inputs c.self.inside.unchecked c.self.inside.rules.items c.self.inside.tables c.self.inside.opened.items))
    (sym c.step_of.ensures)
    (has_factors c.self.inside.wires c.self.inside.public c.self.inside.inputs c.self.inside.unchecked c.self.inside.rules.items c.self.inside.tables c.self.inside.opened.items
    c.index.result.now c.self.invariant.2 within))
