use Rattle.std.proofs.Common.{◌≡◌, ◌∙◌, drop, refl, ap, sym, subst, length, length-drop, replicate, arith}
use Rattle.zk_model.proofs.ExampleTools.{bytes_by_test}
use Rattle.zk_model.specs.Arithmetic.{SatisfiesElements, first_output}
use Rattle.zk_model.specs.Statement.{Statement, arith_statement}
use Rattle.wire_auth.specs.Values.{given_made}
use Rattle.arith_laws.proofs.Solved.{given_values}
use Rattle.arith_eval.proofs.Products.{given_are, given_count}
use Rattle.session_core.proofs.Computed.{from_values}
use Rattle.session_rehearsal.specs.Rehearsals.{AboutCause, no_digest}
use Rattle.session_rehearsal.proofs.Rehearsed.{arith_about, sized_values}
use Rattle.session_rehearsal.proofs.arith_rehearsing.rehearse_arith.Goals as goal

pub of_arith-requires-clause-digest : goal.of_arith-requires-clause-digest
of_arith-requires-clause-digest g c = bytes_by_test 32 (replicate 32 0) refl refl

pub of_arith-requires-clause-outputs : goal.of_arith-requires-clause-outputs
of_arith-requires-clause-outputs g c =
    ap length (c.as_slice.ensures ∙ c.in_ok-outputs.ensures ∙ c.output_elements.ensures ∙ ap (drop (first_output c.args.circuit)) c.deref.ensures.value)
    ∙ length-drop (first_output c.args.circuit) c.in-Ok.satisfied.elements.items
    ∙ omega (arith, c.in-Ok.ensures.wires.computed.whole, c.wires-wires.ensures.rules.well_formed.outputs_within)

pub rehearse_about-requires-clause-inputs : goal.rehearse_about-requires-clause-inputs
rehearse_about-requires-clause-inputs g c κs within =
    let outs = c.in_ok-outputs.ensures ∙ c.output_elements.ensures ∙ ap (drop (first_output c.args.circuit)) c.deref.ensures.value in
    let gives : SatisfiesElements c.args.circuit c.args.values.now c.in_ok-outputs.outputs = (c.in-Ok.satisfied.elements.items, c.in-Ok.ensures.wires, sym outs) in
    sized_values c.args.circuit c.args.values.now c.in_ok-outputs.outputs c.wires-wires.ensures.rules.well_formed gives
    ∙ sym (ap (λ (s : Statement). s.program.inputs) (c.statement-statement.ensures ∙ c.in_ok-claim.ensures))

pub rehearse_about-requires-clause-wires : goal.rehearse_about-requires-clause-wires
rehearse_about-requires-clause-wires g c κs within =
    let claim = c.statement-statement.ensures ∙ c.in_ok-claim.ensures in
    let elements = c.in-Ok.satisfied.elements.items in
    let formed = c.wires-wires.ensures.rules.well_formed in
    let computed = c.in-Ok.ensures.wires.computed in
    let given : c.in-Ok.satisfied.given.items ≡ given_values c.args.circuit c.args.values.now elements =
    c.in-Ok.ensures.given ∙ given_are c.args.circuit c.args.values.now elements computed in
    record {
      whole = ap length given ∙ given_count c.args.circuit c.args.values.now elements formed computed ∙ sym (ap (λ (s : Statement). s.program.givens) claim);
      made = (λ i. given_made (claim i).program (claim i).public c.args.values.now)
          ∙ c.computed_elements_prove.ensures c.args.circuit c.args.values.now elements formed computed
          ∙ from_values c.args.circuit c.args.values.now elements formed computed ∙ sym given;
    }

pub returns-in-Ok-rehearse_about-clause-done : goal.returns-in-Ok-rehearse_about-clause-done
returns-in-Ok-rehearse_about-clause-done g c =
    let outs = c.in_ok-outputs.ensures ∙ c.output_elements.ensures ∙ ap (drop (first_output c.args.circuit)) c.deref.ensures.value in
    let gives : SatisfiesElements c.args.circuit c.args.values.now c.in_ok-outputs.outputs = (c.in-Ok.satisfied.elements.items, c.in-Ok.ensures.wires, sym outs) in
    let same = c.in-Ok-rehearse_about.ensures.outputs in
    let formed = c.wires-wires.ensures.rules.well_formed in
    record {
      satisfied = subst (SatisfiesElements c.args.circuit c.args.values.now) (sym same) gives;
      only = λ others other. c.one_list.ensures c.args.circuit c.args.values.now others c.in_ok-outputs.outputs formed other gives ∙ sym same;
      about = arith_about c.args.circuit c.args.values.now c.in_ok-outputs.outputs c.args.kind c.args.section c.args.seed.now
          c.in-Ok-rehearse_about.rehearsal c.statement-statement.result formed gives
          (c.statement-statement.ensures ∙ c.in_ok-claim.ensures ∙ ap (arith_statement c.args.circuit no_digest) c.as_slice.ensures)
          same c.in-Ok-rehearse_about.ensures.done;
    }

pub returns-in-Err-clause-cause : goal.returns-in-Err-clause-cause
returns-in-Err-clause-cause g c = c.eval_stop.ensures c.args.circuit c.args.values.now c.args.kind c.args.section c.in-Err.ensures.cause

pub returns-clause-cause : goal.returns-clause-cause
returns-clause-cause g c =
    let outs = c.in_ok-outputs.ensures ∙ c.output_elements.ensures ∙ ap (drop (first_output c.args.circuit)) c.deref.ensures.value in
    let gives : SatisfiesElements c.args.circuit c.args.values.now c.in_ok-outputs.outputs = (c.in-Ok.satisfied.elements.items, c.in-Ok.ensures.wires, sym outs) in
    c.about_stop.ensures c.args.circuit c.args.values.now c.in_ok-outputs.outputs c.args.kind c.args.section gives
    (subst (λ (s : Statement). AboutCause s c.args.kind c.args.section c.in-Err-rehearse_about.fault)
    (c.statement-statement.ensures ∙ c.in_ok-claim.ensures ∙ ap (arith_statement c.args.circuit no_digest) c.as_slice.ensures)
    c.in-Err-rehearse_about.ensures.cause)
