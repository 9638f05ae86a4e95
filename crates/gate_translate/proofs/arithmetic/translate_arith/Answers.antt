use Rattle.std.proofs.Common.{◌≡◌, ◌-◌, ◌+◌, ◌∙◌, map, subst}
use Rattle.std.specs.List.{range_with_len}
use Rattle.zk_model.specs.ArithProgram.{arith_program}
use Rattle.packed_gates.specs.PackedRows.{AreRowsPacked}
use Rattle.field_program.specs.Programs.{products_with, program_of}
use Rattle.gate_translate.proofs.ArithTranslating.{arith_is_held, arith_rules_within, arith_translated}
use Rattle.gate_translate.proofs.NoAssertions.{steps_tabled}
use Rattle.gate_translate.proofs.arithmetic.translate_arith.Goals as goal
use Rattle.gate_translate.proofs.arithmetic.translate_arith.Goals.{In_ok-take_if_any}

packed : (c : goal.In_ok-take_if_any) → AreRowsPacked c.args.circuit.gates c.into_parts-rules.result.0.items c.into_parts-rules.result.1
packed c = subst (λ rows. AreRowsPacked rows c.into_parts-rules.result.0.items c.into_parts-rules.result.1) c.into_rows.ensures c.into_parts-rules.ensures

translated : (c : goal.In_ok-take_if_any)
    → program_of c.wires-wires.result 0 c.inputs-inputs.result c.inputs-inputs.result c.take_if_any.new.rules.items c.into_parts-rules.result.1
    c.take_if_any.new.opened.items ≡ arith_program c.args.circuit
translated c =
    arith_translated c.args.circuit c.wires-wires.result c.inputs-inputs.result c.into_parts-rules.result.0.items c.take_if_any.new.rules.items c.into_parts-rules.result.1
    c.in_ok-opened.opened.items c.take_if_any.new.opened.items c.wires-wires.ensures.count c.inputs-inputs.ensures (packed c)
    (c.in_ok-opened.ensures ∙ (λ i. map (λ o. c.wires-wires.ensures.count i - c.outputs.ensures i + o) (range_with_len 0 (c.outputs.ensures i))))
    c.in_ok-take_if_any.ensures.steps c.in_ok-take_if_any.ensures.opened

pub take_if_any-requires : goal.take_if_any-requires
take_if_any-requires c =
    steps_tabled _ c.into_parts-rules.result.0.items c.into_parts-rules.result.1 c.into_parts-rules.ensures

pub from_parts-requires-clause-held : goal.from_parts-requires-clause-held
from_parts-requires-clause-held c =
    arith_is_held c.args.circuit _ c.into_parts-rules.result.1.factors.items c.arith_is_program.ensures c.arith_is_ordered.ensures c.wires-wires.ensures.rules (translated c)
    (λ i. products_with 0 (c.inputs-inputs.ensures i) (c.inputs-inputs.ensures i) c.into_parts-rules.result.1.factors.items)

pub from_parts-requires-clause-rules : goal.from_parts-requires-clause-rules
from_parts-requires-clause-rules c =
    arith_rules_within c.args.circuit.gates c.into_parts-rules.result.0.items c.take_if_any.new.rules.items c.into_parts-rules.result.1 (packed c)
    c.in_ok-take_if_any.ensures.steps

pub returns : goal.returns
returns c = c.from_parts.ensures ∙ translated (goal.at.returns c).In_ok-take_if_any
