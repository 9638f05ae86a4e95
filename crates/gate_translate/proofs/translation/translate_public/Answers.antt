use Rattle.std.proofs.Common.{◌≡◌, ◌-◌, ◌+◌, ◌∙◌, ap, arith, get_or, subst, map}
use Rattle.std.specs.List.{range_with_len}
use Rattle.packed_gates.specs.PackedSteps.{ArePacked}
use Rattle.packed_gates.specs.declared.packed.Tables.{Tables}
use Rattle.packed_gates.proofs.Packing.{packed_within}
use Rattle.field_program.specs.Programs.{program_of}
use Rattle.field_program.proofs.Numbered.{numbers_are}
use Rattle.zk_model.specs.Boolean.{circuit_program}
use Rattle.gate_translate.proofs.Translating.{gate_rule_within, is_translated, is_held}
use Rattle.gate_translate.proofs.translation.translate_public.Goals as goal
use Rattle.gate_translate.proofs.translation.translate_public.Goals.{After-new-2}

-- the tables of a Boolean circuit
abbrev tables : goal.After-new-2 → Tables
tables c = record { factors = c.into_parts-rules.result.1; sums = c.new.result; constants = c.new-2.result }

translated : (c : goal.After-new-2)
    → program_of c.wires-wires.result c.args.public (c.inputs.result - c.args.public) 0 c.into_parts-rules.result.0.items (tables c) c.in_ok-opened.opened.items
    ≡ circuit_program c.args.public c.args.circuit
translated c =
    is_translated c.args.circuit c.wires-wires.result c.args.public (c.inputs.result - c.args.public) c.into_parts-rules.result.0.items (tables c)
    c.in_ok-opened.opened.items c.wires-wires.ensures.count (ap (λ n. n - c.args.public) c.inputs.ensures)
    (c.in_ok-opened.ensures ∙ (λ i. map (λ o. c.wires-wires.ensures.count i - c.outputs.ensures i + o) (range_with_len 0 (c.outputs.ensures i))))
    (subst (λ gates. ArePacked gates c.into_parts-rules.result.0.items c.into_parts-rules.result.1.items) c.into_gates.ensures c.into_parts-rules.ensures)

pub from_parts-requires-clause-held : goal.from_parts-requires-clause-held
from_parts-requires-clause-held c =
    is_held c.args.circuit c.args.public _ c.circuit_is_program.ensures c.circuit_is_ordered.ensures c.gates_are_few.ensures c.wires-wires.ensures.rules c.requires
    (translated c) (λ i product at. numbers_are c.args.public (c.inputs.result - c.args.public) 0 c.into_parts-rules.result.1.items i product (omega arith) at ∙ omega arith)

pub from_parts-requires-clause-rules : goal.from_parts-requires-clause-rules
from_parts-requires-clause-rules c k d below =
    gate_rule_within (tables c) (get_or c.into_parts-rules.result.0.items k d)
    (packed_within c.into_gates.result c.into_parts-rules.result.0.items c.into_parts-rules.result.1.items c.into_parts-rules.ensures k d below)

pub returns : goal.returns
returns c = c.from_parts.ensures ∙ translated (goal.at.returns c).After-new-2
