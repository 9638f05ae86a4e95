use Rattle.std.proofs.Common.{◌∙◌, ◌+◌, ap}
use Rattle.std.specs.List.{range_with_len}
use Rattle.field_program.proofs.First.{slots_first}
use Rattle.field_program.proofs.slots.Slots.first.Goals as goal

pub returns : goal.returns
returns c = slots_first c.args.program.now _ c.inputs.ensures.held.formed
    (c.in_ok-places.ensures ∙ ap (range_with_len 0) c.wires.ensures.count) c.new.ensures.items (λ i. c.public.ensures.count i + c.inputs.ensures.count i)
