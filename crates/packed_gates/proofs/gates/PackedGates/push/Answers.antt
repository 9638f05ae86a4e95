use Rattle.std.proofs.Common.{◌≡◌, ◌++◌, ◌∷◌, [], ◌∙◌, rules, arith, length, ap}
use Rattle.packed_gates.specs.PackedSteps.{gate_factors, gates_of}
use Rattle.packed_gates.proofs.Packing.{few_factors, packed_push}
use Rattle.packed_gates.proofs.gates.PackedGates.push.Goals as goal

pub overflow_cast-number : goal.overflow_cast-number
overflow_cast-number c =
    let count : c.len-number.result ≡ length c.self.inside.factors.items = search (rules, c.reserve.ensures, c.reserve-2.ensures) in
    omega (
      arith,
      count,
      few_factors (gates_of c.self.inside.factors.items c.self.inside.rules.items),
      ap length c.self.invariant.factors_are,
      ap length c.self.view_is,
      c.requires,
    )

pub invariant_of-self-2 : goal.invariant_of-self-2
invariant_of-self-2 c =
    let count : c.len-number.result ≡ length c.self.inside.factors.items = search (rules, c.reserve.ensures, c.reserve-2.ensures) in
    (packed_push c.args.self.now c.self.inside.rules.items c.push_reserved.new.self.items c.self.inside.factors.items c.push_factors.new.factors.items c.args.gate
    c.len-number.result c.self.view_is c.self.invariant count
    (c.push_reserved.ensures.items ∙ (λ i. c.reserve.ensures.items i ++ c.gate_rule.ensures i ∷ []))
    (c.push_factors.ensures ∙ ap (λ f. f ++ gate_factors c.args.gate) c.reserve-2.ensures.items)).0

pub returns : goal.returns
returns c =
    let count : c.len-number.result ≡ length c.self.inside.factors.items = search (rules, c.reserve.ensures, c.reserve-2.ensures) in
    (packed_push c.args.self.now c.self.inside.rules.items c.push_reserved.new.self.items c.self.inside.factors.items c.push_factors.new.factors.items c.args.gate
    c.len-number.result c.self.view_is c.self.invariant count
    (c.push_reserved.ensures.items ∙ (λ i. c.reserve.ensures.items i ++ c.gate_rule.ensures i ∷ []))
    (c.push_factors.ensures ∙ ap (λ f. f ++ gate_factors c.args.gate) c.reserve-2.ensures.items)).1
