use Rattle.std.proofs.Common.{◌≡◌, ◌++◌, Bool, List, length, drop, ap, ◌∙◌, refl, subst, arith, rules}
use Rattle.std.proofs.lemmas.List.{length-drop}
use Rattle.zk_model.specs.Circuit.{Satisfies, output_wire}
use Rattle.prove_command.specs.BitsProofs.{BitDiffersFirst}
use Rattle.prove_command.proofs.bits_witness.satisfying_wires.Goals as goal

pub first_difference-requires : goal.first_difference-requires
first_difference-requires c =
    let circuit = c.args.circuit.now in
    let wires = c.in_ok-wires.wires.items in
    let same : length c.output_bits.result.now ≡ length (drop (output_wire circuit 0) wires) =
    ap length (c.output_bits.ensures ∙ ap (drop (output_wire circuit 0)) c.deref.ensures.value) in
    let left = length-drop (output_wire circuit 0) wires in
    let whole = c.in_ok-wires.ensures.wires.whole in
    let fits = c.wires-wires.ensures.rules.well_formed.outputs_within in
    let claimed : length c.args.proof.now.outputs ≡ circuit.outputs = search rules in
    omega (arith, same, left, whole, fits, claimed)

pub returns-in-Some-clause-stop : goal.returns-in-Some-clause-stop
returns-in-Some-clause-stop c =
    let circuit = c.args.circuit.now in
    let bits = c.args.proof.now.public ++ c.args.proof.now.bits in
    let claimed = c.args.proof.now.outputs in
    let wires = c.in_ok-wires.wires.items in
    let given = drop (output_wire circuit 0) wires in
    let last = c.output_bits.ensures ∙ ap (drop (output_wire circuit 0)) c.deref.ensures.value in
    let gives : Satisfies circuit bits given = (wires, c.in_ok-wires.ensures.wires, refl) in
    record {
      outputs = given;
      gives = gives;
      only = λ others by. c.one_outcome.ensures circuit bits others given c.wires-wires.ensures.rules.well_formed by gives;
      count = search rules;
      differs = subst (λ (q : List Bool × List Bool). BitDiffersFirst c.in-Some.output q.0 q.1) (λ i. (last i, c.outputs-outputs.ensures i)) c.in-Some.ensures.first;
    }
