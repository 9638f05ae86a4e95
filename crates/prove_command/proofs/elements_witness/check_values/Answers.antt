use Rattle.std.proofs.Common.{◌∙◌, ℕ, List, drop, ap, refl, inr, subst}
use Rattle.zk_model.specs.Arithmetic.{SatisfiesElements, first_output}
use Rattle.prove_command.specs.ElementsProofs.{ElementDiffersFirst}
use Rattle.prove_command.proofs.elements_witness.check_values.Goals as goal

pub returns-in-Err-clause-stop : goal.returns-in-Err-clause-stop
returns-in-Err-clause-stop c = c.eval_stop.ensures c.args.outputs.now

pub returns-in-Some-clause-stop : goal.returns-in-Some-clause-stop
returns-in-Some-clause-stop c =
    let circuit = c.args.circuit.now in
    let outputs : List ℕ = drop (first_output circuit) c.in-Ok.satisfied.elements.items in
    let gives : SatisfiesElements circuit c.args.values.now outputs = (c.in-Ok.satisfied.elements.items, c.in-Ok.ensures.wires, refl) in
    inr (record {
      outputs = outputs;
      gives = gives;
      only = λ others by. c.one_list.ensures circuit c.args.values.now others outputs c.wires-wires.ensures.rules.well_formed by gives;
      differs = subst (λ (l : List ℕ). ElementDiffersFirst c.in-Some.output l c.args.outputs.now)
          (c.output_elements.ensures ∙ ap (drop (first_output circuit)) c.deref.ensures.value) c.in-Some.ensures.first;
    })
