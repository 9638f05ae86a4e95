use Rattle.std.proofs.Common.{◌∙◌, ◌++◌, refl, ap, sym, length, drop, replicate}
use Rattle.std.proofs.lemmas.List.{length-map}
use Rattle.zk_model.specs.Bits.{from_bit}
use Rattle.zk_model.specs.Boolean.{bits_of_products}
use Rattle.zk_model.specs.Circuit.{Satisfies, output_wire}
use Rattle.zk_model.specs.Statement.{Statement, circuit_statement}
use Rattle.zk_model.proofs.ExampleTools.{bytes_by_test}
use Rattle.bristol_reader.proofs.Exits.{raised}
use Rattle.wire_auth.specs.Values.{given_made}
use Rattle.session_rehearsal.specs.Rehearsals.{RehearseCause, no_digest}
use Rattle.session_rehearsal.proofs.Rehearsed.{circuit_about, circuit_cause, made_products}
use Rattle.session_rehearsal.proofs.rehearsing.rehearse.Goals as goal

pub returns-in_err-wires-clause-cause : goal.returns-in_err-wires-clause-cause
returns-in_err-wires-clause-cause g c =
    raised (RehearseCause c.args.circuit c.args.public.now c.args.bits.now c.args.kind c.args.section) c.from_residual.result c.in_err-wires.field-0.0
    c.from_residual.ensures.1 (c.in_err-wires.ensures.cause c.args.kind c.args.section)

pub new-requires-clause-digest : goal.new-requires-clause-digest
new-requires-clause-digest g c = bytes_by_test 32 (replicate 32 0) refl refl

pub rehearse_about-requires-clause-inputs : goal.rehearse_about-requires-clause-inputs
rehearse_about-requires-clause-inputs g c κs within =
    ap length (c.deref-2.ensures.value ∙ c.in_ok-inputs.ensures) ∙ length-map c.args.bits.now from_bit
    ∙ c.in_ok-wires.ensures.length ∙ sym (ap (λ (s : Statement). s.program.inputs) (c.statement-statement.ensures ∙ c.in_ok-claim.ensures))

pub rehearse_about-requires-clause-wires : goal.rehearse_about-requires-clause-wires
rehearse_about-requires-clause-wires g c κs within =
    let claim = c.statement-statement.ensures ∙ c.in_ok-claim.ensures in
    let inputs = c.deref-2.ensures.value ∙ c.in_ok-inputs.ensures in
    record {
      whole = c.in_ok-wires.ensures.wires.whole ∙ sym (ap (λ (s : Statement). s.program.wires) claim);
      made = (λ i. given_made (claim i).program (claim i).public (inputs i))
          ∙ made_products c.args.circuit c.args.public.now c.args.bits.now c.in_ok-wires.wires.items c.bits_make_products.ensures
          c.wires-wires.ensures.rules.well_formed c.requires.public c.in_ok-wires.ensures.wires
          ∙ (λ i. bits_of_products (sym claim i).program.products c.in_ok-wires.wires.items);
    }

pub returns-in_err-rehearsal-clause-cause : goal.returns-in_err-rehearsal-clause-cause
returns-in_err-rehearsal-clause-cause g c =
    raised (RehearseCause c.args.circuit c.args.public.now c.args.bits.now c.args.kind c.args.section) c.from_residual-in_err-rehearsal.result c.in_err-rehearsal.field-0.0
    c.from_residual-in_err-rehearsal.ensures.1
    (circuit_cause c.args.circuit c.args.public.now c.args.bits.now c.in_ok-outputs.outputs c.args.kind c.args.section c.statement-statement.result _
    c.in_ok-wires.ensures.length
    (c.statement-statement.ensures ∙ c.in_ok-claim.ensures ∙ ap (circuit_statement c.args.circuit no_digest c.args.public.now) c.as_slice.ensures)
    c.in_err-rehearsal.ensures.cause)

pub returns-clause-done : goal.returns-clause-done
returns-clause-done g c =
    let formed = c.wires-wires.ensures.rules.well_formed in
    let met = c.in_ok-wires.ensures.wires in
    let last = c.in_ok-outputs.ensures ∙ c.output_bits.ensures ∙ ap (drop (output_wire c.args.circuit 0)) c.deref.ensures.value in
    let same = c.in_ok-rehearsal.ensures.outputs in
    let satisfied : Satisfies c.args.circuit (c.args.public.now ++ c.args.bits.now) c.in_ok-rehearsal.rehearsal.outputs = (c.in_ok-wires.wires.items, met, sym last ∙ sym same) in
    record {
      satisfied = satisfied;
      only = λ others other. c.one_outcome.ensures c.args.circuit (c.args.public.now ++ c.args.bits.now) others c.in_ok-rehearsal.rehearsal.outputs formed other satisfied;
      about = circuit_about c.args.circuit c.args.public.now c.args.bits.now c.in_ok-wires.wires.items c.in_ok-outputs.outputs c.args.kind c.args.section c.args.seed.now
          c.in_ok-rehearsal.rehearsal c.statement-statement.result _ c.bits_solve.ensures formed c.requires.public met last
          (c.statement-statement.ensures ∙ c.in_ok-claim.ensures ∙ ap (circuit_statement c.args.circuit no_digest c.args.public.now) c.as_slice.ensures)
          (c.deref-2.ensures.value ∙ c.in_ok-inputs.ensures) same c.in_ok-rehearsal.ensures.done;
    }
