use Rattle.std.proofs.Common.{◌≡◌, drop, sym, arith}
use Rattle.std.proofs.lemmas.Grind.{common_steps}
use Rattle.zk_model.specs.Circuit.{Satisfies, output_wire}
use Rattle.bool_eval.proofs.eval.Goals as goal

pub returns-clause-only : goal.returns-clause-only
returns-clause-only c =
    let circuit = c.args.circuit.now in
    let bits = c.args.bits.now in
    let last : c.in_ok-outputs.outputs.items ≡ drop (output_wire circuit 0) c.in_ok-wires.wires.items =
    grind (arith, common_steps) in
    let gives : Satisfies circuit bits c.in_ok-outputs.outputs.items =
    (c.in_ok-wires.wires.items, c.in_ok-wires.ensures.wires, sym last) in
    λ others by.
    c.one_outcome.ensures circuit bits others c.in_ok-outputs.outputs.items c.wires.ensures.rules.well_formed by gives
