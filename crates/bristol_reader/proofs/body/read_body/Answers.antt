use Rattle.std.proofs.Common.{◌∙◌, arith, ap, sym, subst, List, Bool, true, set}
use Rattle.bristol_reader.specs.declared.fault.ReadError.TheVariants.{Fault}
use Rattle.bristol_reader.specs.Bodies.{AreOutputsSet, BodyCause, IsUnsetOutput}
use Rattle.bristol_reader.proofs.Exits.{raised}
use Rattle.bristol_reader.proofs.BodySteps.{body_more, gate_fault, extra_fault, output_fault, body_found}
use Rattle.bristol_reader.proofs.body.read_body.Goals as goal

pub returns-in_err-gate-clause-cause : goal.returns-in_err-gate-clause-cause
returns-in_err-gate-clause-cause c =
    raised (BodyCause c.args.header c.args.tokens.now) c.from_residual-in_err-gate.result (Fault c.in_err-gate.field-0.0) c.from_residual-in_err-gate.ensures.1
    (gate_fault c.args.header c.args.tokens.now c.gates.tokens c.gates.set c.gates.gates c.gates.counter c.in_err-gate.field-0.0 (omega arith) c.gates.invariant
    c.in_err-gate.ensures.fault)

pub gates-preserved : goal.gates-preserved
gates-preserved c =
    body_more c.args.header c.args.tokens.now c.gates.tokens c.read_gate.new.tokens c.gates.set c.insert.new.self c.gates.gates c.push.new.self
    c.in_ok-gate.gate c.gates.counter c.in_ok-gate.ensures.gate c.in_ok-gate.ensures.fits
    c.in_ok-push.ensures (c.insert.ensures ∙ ap (λ n. set c.gates.set n true) c.out_wire.ensures) c.gates.invariant

pub returns-in_err-end-clause-cause : goal.returns-in_err-end-clause-cause
returns-in_err-end-clause-cause c =
    raised (BodyCause c.args.header c.args.tokens.now) c.from_residual-in_err-end.result (Fault c.in_err-end.field-0.0) c.from_residual-in_err-end.ensures.1
    (extra_fault c.args.header c.args.tokens.now c.gates.tokens c.gates.set c.gates.gates c.gates.counter c.in_err-end.field-0.0 (omega arith) c.gates.invariant c.in_err-end.ensures.fault)

pub returns-in-Some-clause-cause : goal.returns-in-Some-clause-cause
returns-in-Some-clause-cause c =
    subst (BodyCause c.args.header c.args.tokens.now) (sym c.into.ensures)
    (output_fault c.args.header c.args.tokens.now c.gates.tokens c.gates.set c.gates.gates c.gates.counter c.in-Some.wire (omega arith) c.requires.outputs c.in_ok-end.ensures.none
    c.gates.invariant (subst (λ (l : List Bool). IsUnsetOutput l c.args.header.outputs c.in-Some.wire) c.as_slice.ensures c.in-Some.ensures.unset))

pub returns-clause-found : goal.returns-clause-found
returns-clause-found c =
    body_found c.args.header c.args.tokens.now c.gates.tokens c.gates.set c.gates.gates c.gates.counter (omega arith) c.requires.outputs c.in_ok-end.ensures.none
    (subst (λ (l : List Bool). AreOutputsSet l c.args.header.outputs) c.as_slice.ensures c.in_default.ensures.none) c.gates.invariant
