use Rattle.std.proofs.Common.{◌≡◌, ◌<◌, ◌≤◌, ◌+◌, ◌-◌, ◌∙◌, rules, arith, length, ap, subst, sym}
use Rattle.std.specs.Prelude.{Some, slice_get}
use Rattle.zk_model.specs.Program.{Program}
use Rattle.packed_gates.specs.declared.packed.Factors.{Factors}
use Rattle.field_program.proofs.Numbered.{check_at, factors_there, product_at}
use Rattle.field_program.proofs.program.FieldProgram.product.Goals as goal

pub returns-then-c-inputs-clause-product : goal.returns-then-c-inputs-clause-product
returns-then-c-inputs-clause-product c =
    ap (λ (p : Program). slice_get p.products c.args.i) (sym c.self.view_is)
    ∙ check_at c.self.inside.public c.self.inside.inputs c.self.inside.unchecked c.self.inside.tables.factors.items c.args.i c.if-c-inputs.true
    ∙ ap Some (sym c.bit_check.ensures)

pub index-requires : goal.index-requires
index-requires c =
    let there = factors_there c.self.inside.public c.self.inside.inputs c.self.inside.unchecked c.self.inside.tables.factors.items c.args.i c.self.invariant.2 c.if-c-inputs.false
    (subst (λ (p : Program). c.args.i < length p.products) (sym c.self.view_is) c.requires) in search (rules, there)

pub returns-clause-product : goal.returns-clause-product
returns-clause-product c =
    let inputs = c.self.inside.inputs in
    let value = c.self.inside.unchecked + c.args.i in
    let late : inputs ≤ value = c.if-c-inputs.false in
    let same : value ≡ inputs + (value - inputs) = omega (arith, late) in
    ap (λ (p : Program). slice_get p.products c.args.i) (sym c.self.view_is)
    ∙ product_at c.self.inside.public inputs c.self.inside.unchecked c.self.inside.tables.factors.items c.args.i (value - inputs) value c.index.result.now c.self.invariant.2
    (omega arith) same
    (factors_there c.self.inside.public inputs c.self.inside.unchecked c.self.inside.tables.factors.items c.args.i c.self.invariant.2 late
    (subst (λ (p : Program). c.args.i < length p.products) (sym c.self.view_is) c.requires))
    ∙ ap (λ (f : Factors). Some (record { a = f.a; b = f.b; c = value })) (sym c.index.ensures)
