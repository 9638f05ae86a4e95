use Rattle.std.proofs.Common.{◌≡◌, ◌<◌, ◌∙◌, rules, List, arith, length, ap, subst, sym}
use Rattle.std.specs.Prelude.{Some, slice_get, slice_index_or}
use Rattle.std.proofs.lemmas.List.{length-map}
use Rattle.std.proofs.lemmas.List.Elements.{All-get_or}
use Rattle.zk_model.specs.declared.GateRow.{GateRow}
use Rattle.packed_gates.specs.PackedSteps.{IsGateRule, gate_of}
use Rattle.packed_gates.specs.declared.packed.Factors.{Factors}
use Rattle.packed_gates.proofs.Packing.{gate_at, packed_within}
use Rattle.packed_gates.proofs.gates.PackedGates.get.Goals as goal

pub gate_of-requires : goal.gate_of-requires
gate_of-requires c =
    let at : c.index.result.now ≡ slice_index_or c.self.inside.rules.items c.args.i c.index.result.now = search (rules, c.index.ensures) in
    let below : c.args.i < length c.self.inside.rules.items =
    omega (arith, c.requires, ap length c.self.view_is, length-map c.self.inside.rules.items (gate_of c.self.inside.factors.items)) in
    subst (λ (f : List Factors). IsGateRule (length f) c.index.result.now) (sym c.deref.ensures.value)
    (subst (IsGateRule (length c.self.inside.factors.items)) (sym at)
    (All-get_or (IsGateRule (length c.self.inside.factors.items)) c.self.inside.rules.items c.args.i c.index.result.now below
    (packed_within _ c.self.inside.rules.items c.self.inside.factors.items c.self.invariant)))

pub returns : goal.returns
returns c =
    let at : c.index.result.now ≡ slice_index_or c.self.inside.rules.items c.args.i c.index.result.now = search (rules, c.index.ensures) in
    let below : c.args.i < length c.self.inside.rules.items =
    omega (arith, c.requires, ap length c.self.view_is, length-map c.self.inside.rules.items (gate_of c.self.inside.factors.items)) in
    ap (λ (l : List GateRow). slice_get l c.args.i) (sym c.self.view_is)
    ∙ gate_at c.self.inside.factors.items c.self.inside.rules.items c.args.i c.index.result.now below
    ∙ sym (λ i. Some (gate_of (c.deref.ensures.value i) (at i)))
    ∙ ap (λ (g : GateRow). Some g) (sym c.gate_of.ensures)
