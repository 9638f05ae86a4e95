use Rattle.std.proofs.Common.{◌∙◌, ℕ, List, inr, subst}
use Rattle.zk_model.specs.Arithmetic.{SatisfiesElements}
use Rattle.zk_model.specs.Statement.{arith_statement}
use Rattle.zk_port.specs.Shelves.{ShelfState}
use Rattle.frame_link.proofs.LineLemmas.{fails_at}
use Rattle.claim_files.specs.ArithFiles.{HasArithText, IsElementsFile}
use Rattle.prove_command.specs.ElementsProofs.{AreGivenValues, ValuesStop}
use Rattle.prove_command.proofs.elements_witness.load_solution.Goals as goal

pub returns-in_err-given-clause-stop : goal.returns-in_err-given-clause-stop
returns-in_err-given-clause-stop g c =
    let told = (g.F.Shelf.state c.args.shelf.now).told in
    let circuit = c.in_ok-read.read.circuit in
    let why = c.in_err-given.field-0.0 in
    let text = subst (λ (name : List ℕ). HasArithText told name circuit c.in_ok-read.read.digest) c.circuit-name.ensures c.in_ok-read.ensures.file in
    fails_at _ c.from_residual-in_err-given.result why c.from_residual-in_err-given.ensures.1 (inr (record {
      circuit = circuit;
      file = record { text = text.text; loaded = text.loaded; says = text.says.0 };
      is = inr (record {
        elements = c.in_ok-inputs.inputs.items;
        file = subst (λ (q : ShelfState × List ℕ). IsElementsFile q.0.told q.1 c.in_ok-inputs.inputs.items)
            (λ i. (c.in_ok-read.ensures.quiet i, c.values-values_name.ensures i)) c.in_ok-inputs.ensures.elements;
        counted = c.in_ok-inputs.ensures.count ∙ c.inputs-need.ensures;
        is = inr (record {
          elements = c.in_ok-outputs.outputs.items;
          file = subst (λ (q : ShelfState × List ℕ). IsElementsFile q.0.told q.1 c.in_ok-outputs.outputs.items)
              (λ i. ((c.in_ok-inputs.ensures.quiet ∙ c.in_ok-read.ensures.quiet) i, c.outputs-outputs_name.ensures i)) c.in_ok-outputs.ensures.elements;
          counted = c.in_ok-outputs.ensures.count ∙ c.outputs-claimed.ensures;
          is = subst (λ (q : List ℕ × List ℕ). ValuesStop circuit q.0 q.1 why) (λ i. (c.deref.ensures.value i, c.deref-2.ensures.value i))
              c.in_err-given.ensures.stop;
        });
      });
    }))

pub returns-clause-witness : goal.returns-clause-witness
returns-clause-witness g c =
    let told = (g.F.Shelf.state c.args.shelf.now).told in
    let circuit = c.in_ok-read.read.circuit in
    let inputs = c.in_ok-inputs.inputs.items in
    let outputs = c.in_ok-outputs.outputs.items in
    let text = subst (λ (name : List ℕ). HasArithText told name circuit c.in_ok-read.read.digest) c.circuit-name.ensures c.in_ok-read.ensures.file in (
      circuit,
      record {
        outputs = outputs;
        claim = record {
          text = text.text;
          loaded = text.loaded;
          says = text.says.0;
          outputs_file = subst (λ (q : ShelfState × List ℕ). IsElementsFile q.0.told q.1 outputs)
              (λ i. ((c.in_ok-inputs.ensures.quiet ∙ c.in_ok-read.ensures.quiet) i, c.outputs-outputs_name.ensures i)) c.in_ok-outputs.ensures.elements;
          count = c.in_ok-outputs.ensures.count ∙ c.outputs-claimed.ensures;
          statement_is = c.in_ok-claim.ensures ∙ (λ i. arith_statement circuit (text.says.1 i) (c.deref-3.ensures.value i));
        };
        values = subst (λ (q : ShelfState × List ℕ). IsElementsFile q.0.told q.1 inputs)
            (λ i. (c.in_ok-read.ensures.quiet i, c.values-values_name.ensures i)) c.in_ok-inputs.ensures.elements;
        satisfied = subst (λ (q : List ℕ × List ℕ). SatisfiesElements circuit q.0 q.1) (λ i. (c.deref.ensures.value i, c.deref-2.ensures.value i))
            c.in_ok-given.ensures.satisfied;
      },
      subst (λ (l : List ℕ). AreGivenValues circuit l c.in_ok-given.given.items) c.deref.ensures.value c.in_ok-given.ensures.given,
    )
