use Rattle.std.proofs.Common.{◌≡◌, ◌∙◌, length, drop, ap, sym, arith, length-drop}
use Rattle.std.proofs.lemmas.Grind.{common_steps}
use Rattle.zk_model.specs.Arithmetic.{SatisfiesElements, first_output}
use Rattle.arith_eval.proofs.Asserting.{sized}
use Rattle.arith_reader.proofs.Exits.{raised}
use Rattle.arith_eval.specs.Answers.{IsCause}
use Rattle.arith_eval.specs.declared.fault.ArithEvalFault.TheVariants.{NoMemory}
use Rattle.arith_eval.proofs.outputs.eval.Goals as goal

pub returns-in_err-outputs-clause-cause : goal.returns-in_err-outputs-clause-cause
returns-in_err-outputs-clause-cause c =
    raised (IsCause c.args.circuit.now c.args.values.now) c.from_residual-in_err-outputs.result NoMemory
    c.from_residual-in_err-outputs.ensures.1
    (sized c.args.circuit.now c.args.values.now c.in_ok-satisfied.satisfied.elements.items c.wires-wires.ensures.rules.well_formed c.in_ok-satisfied.ensures.wires.computed)

pub returns-clause-only : goal.returns-clause-only
returns-clause-only c =
    let last : c.in_ok-outputs.outputs.items ≡ drop (first_output c.args.circuit.now) c.in_ok-satisfied.satisfied.elements.items = grind (arith, common_steps) in
    let gives : SatisfiesElements c.args.circuit.now c.args.values.now c.in_ok-outputs.outputs.items = (c.in_ok-satisfied.satisfied.elements.items, c.in_ok-satisfied.ensures.wires, sym last) in
    λ others by. c.one_list.ensures c.args.circuit.now c.args.values.now others c.in_ok-outputs.outputs.items c.wires-wires.ensures.rules.well_formed by gives

pub returns-clause-count : goal.returns-clause-count
returns-clause-count c =
    let last : c.in_ok-outputs.outputs.items ≡ drop (first_output c.args.circuit.now) c.in_ok-satisfied.satisfied.elements.items = grind (arith, common_steps) in
    ap length last ∙ length-drop (first_output c.args.circuit.now) c.in_ok-satisfied.satisfied.elements.items
    ∙ omega (arith, c.in_ok-satisfied.ensures.wires.computed.whole, c.wires-wires.ensures.rules.well_formed.outputs_within)
