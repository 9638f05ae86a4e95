use Rattle.std.proofs.Common.{◌≡◌, ℕ, ◌+◌, ◌<◌, List, vec_capacity, arith, length, refl, sym, ap, ◌∙◌, subst, inl, inr}
use Rattle.std.specs.Prelude.{Some, slice_get}
use Rattle.zk_model.specs.declared.ArithRow.TheVariants.{Add, Mul, Const, Assert}
use Rattle.arith_eval.proofs.Asserting.{below, read_at, unmet_found}
use Rattle.arith_eval.proofs.Products.{AreTaken, taken_assertion, taken_other, taken_product}
use Rattle.arith_eval.proofs.asserts.with_products.Goals as goal
use Rattle.arith_eval.proofs.asserts.with_products.Goals.{in-Assert+else-value-ne0, in-Mul, in-Add}

pub bounds-elements-a : goal.bounds-elements-a
bounds-elements-a c =
    below c.args.circuit.now c.args.elements.now c.loop-i.i c.in-Assert.a (Assert c.in-Assert.a) c.wires-wires.ensures.rules.well_formed c.in-Assert.ensures refl
    c.requires.whole

pub returns-then-value-ne0-clause-unmet : goal.returns-then-value-ne0-clause-unmet
returns-then-value-ne0-clause-unmet c =
    unmet_found c.args.circuit.now c.args.elements.now c.loop-i.i c.in-Assert.a (Assert c.in-Assert.a) _ c.in-Assert.ensures refl
    (read_at c.args.elements.now c.in-Assert.a c.index-elements-a.result
    (below c.args.circuit.now c.args.elements.now c.loop-i.i c.in-Assert.a (Assert c.in-Assert.a) c.wires-wires.ensures.rules.well_formed c.in-Assert.ensures refl
    c.requires.whole) c.index-elements-a.is)
    (omega (arith, c.value.ensures.value, c.if-value-ne0.true)) c.loop-i.invariant.taken.met

pub bounds-elements-out : goal.bounds-elements-out
bounds-elements-out c =
    omega (arith, (c.wires-wires.ensures.rules.well_formed.gates_fit c.loop-i.i (Mul c.in-Mul.a c.in-Mul.b c.in-Mul.out) c.in-Mul.ensures).2.0, c.requires.whole)

pub loop-i-preserved : goal.loop-i-preserved
loop-i-preserved c =
    let gates = c.args.circuit.now.gates in
    let elements = c.args.elements.now in
    let formed = c.wires-wires.ensures.rules.well_formed in
    elim c.match-gate.branch [
      | in-Assert+else-value-ne0 w ↦
          let stands : slice_get gates c.loop-i.i ≡ Some (Assert w.in-Assert.a) = c.gate.ensures ∙ ap Some w.in-Assert.is in
          record {
            taken = subst (λ (q : List ℕ × ℕ). AreTaken gates elements c.args.inputs.items q.0 (c.loop-i.i + 1) q.1)
                (λ j. ((sym w.given-is j).items, sym w.number-is j))
                (taken_assertion gates elements c.args.inputs.items c.loop-i.given.items c.loop-i.i c.loop-i.number w.in-Assert.a stands
                (read_at elements w.in-Assert.a w.index-elements-a.result
                (below c.args.circuit.now elements c.loop-i.i w.in-Assert.a (Assert w.in-Assert.a) formed stands refl c.requires.whole) w.index-elements-a.is
                ∙ sym w.value.ensures.value ∙ w.if-value-ne0.false) c.loop-i.invariant.taken);
            room = ap vec_capacity w.given-is ∙ c.loop-i.invariant.room;
          }
      | in-Mul w ↦
          let stands : slice_get gates c.loop-i.i ≡ Some (Mul w.in-Mul.a w.in-Mul.b w.in-Mul.out) = c.gate.ensures ∙ ap Some w.in-Mul.is in
          let within : w.in-Mul.out < length elements =
          omega (arith, (formed.gates_fit c.loop-i.i (Mul w.in-Mul.a w.in-Mul.b w.in-Mul.out) stands).2.0, c.requires.whole) in
          record {
            taken = subst (λ (q : List ℕ × ℕ). AreTaken gates elements c.args.inputs.items q.0 (c.loop-i.i + 1) q.1)
                (λ j. (sym (ap (λ v. v.items) w.given-is ∙ w.push_reserved.ensures.items) j, sym w.number-is j))
                (taken_product gates elements c.args.inputs.items c.loop-i.given.items c.loop-i.i c.loop-i.number w.in-Mul.a w.in-Mul.b w.in-Mul.out
                w.index-elements-out.result stands (read_at elements w.in-Mul.out w.index-elements-out.result within w.index-elements-out.is)
                c.loop-i.invariant.taken);
            room = ap vec_capacity w.given-is ∙ w.push_reserved.ensures.capacity ∙ c.loop-i.invariant.room;
          }
      | in-Add w ↦
          record {
            taken = subst (λ (q : List ℕ × ℕ). AreTaken gates elements c.args.inputs.items q.0 (c.loop-i.i + 1) q.1)
                (λ j. ((sym w.given-is j).items, sym w.number-is j))
                (elim w.in-Add.is [
                  | inl sum ↦ taken_other gates elements c.args.inputs.items c.loop-i.given.items c.loop-i.i c.loop-i.number (Add sum.0 sum.1 sum.2)
                      (c.gate.ensures ∙ ap Some sum.3) refl refl c.loop-i.invariant.taken
                  | inr constant ↦ taken_other gates elements c.args.inputs.items c.loop-i.given.items c.loop-i.i c.loop-i.number (Const constant.0 constant.1)
                      (c.gate.ensures ∙ ap Some constant.2) refl refl c.loop-i.invariant.taken
                ]);
            room = ap vec_capacity w.given-is ∙ c.loop-i.invariant.room;
          }
    ]
