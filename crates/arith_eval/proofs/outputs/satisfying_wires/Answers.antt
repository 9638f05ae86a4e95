use Rattle.std.proofs.Common.{List, ℕ, sym, subst}
use Rattle.arith_eval.specs.Answers.{IsCause, IsUnmet}
use Rattle.arith_eval.proofs.Asserting.{unsatisfied}
use Rattle.arith_eval.proofs.outputs.satisfying_wires.Goals as goal

pub returns-in-Err-clause-cause : goal.returns-in-Err-clause-cause
returns-in-Err-clause-cause c =
    subst (IsCause c.args.circuit.now c.args.values.now) (sym c.assert_failed.ensures)
    (unsatisfied c.args.circuit.now c.args.values.now c.in_ok-elements.elements.items c.in-Err.unmet c.unmet_is_unsatisfied.ensures c.wires-wires.ensures.rules.well_formed
    c.in_ok-elements.ensures.computed (subst (λ (l : List ℕ). IsUnmet c.args.circuit.now l c.in-Err.unmet) c.deref.ensures.value c.in-Err.ensures.unmet))
