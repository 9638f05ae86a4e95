use Rattle.bristol_reader.specs.Wants.{IsFaultBehind}
use Rattle.bristol_reader.specs.TextFaults.{HeaderWants}
use Rattle.bristol_reader.proofs.Exits.{raised}
use Rattle.bristol_reader.proofs.Headings.{gates_fault, wires_fault, inputs_fault, outputs_fault, header_taken}
use Rattle.bristol_reader.proofs.header.read_header.Goals as goal

pub returns-in_err-gates-clause-fault : goal.returns-in_err-gates-clause-fault
returns-in_err-gates-clause-fault c =
    raised (IsFaultBehind HeaderWants c.args.tokens.now) c.from_residual.result c.in_err-gates.field-0.0 c.from_residual.ensures.1
    (gates_fault c.args.tokens.now c.in_err-gates.field-0.0 c.in_err-gates.ensures.fault)

pub returns-in_err-wires-clause-fault : goal.returns-in_err-wires-clause-fault
returns-in_err-wires-clause-fault c =
    raised (IsFaultBehind HeaderWants c.args.tokens.now) c.from_residual-in_err-wires.result c.in_err-wires.field-0.0 c.from_residual-in_err-wires.ensures.1
    (wires_fault c.args.tokens.now c.count.new.self c.in_ok-gates.gates c.in_err-wires.field-0.0 c.in_ok-gates.ensures.within c.in_ok-gates.ensures.number c.in_err-wires.ensures.fault)

pub returns-in_err-inputs-clause-fault : goal.returns-in_err-inputs-clause-fault
returns-in_err-inputs-clause-fault c =
    raised (IsFaultBehind HeaderWants c.args.tokens.now) c.from_residual-in_err-inputs.result c.in_err-inputs.field-0.0 c.from_residual-in_err-inputs.ensures.1
    (inputs_fault c.args.tokens.now c.count.new.self c.count-2.new.self c.in_ok-gates.gates c.in_ok-wires.wires c.in_err-inputs.field-0.0 c.in_ok-gates.ensures.within c.in_ok-wires.ensures.within
    c.in_ok-gates.ensures.number c.in_ok-wires.ensures.number c.in_err-inputs.ensures.fault)

pub returns-in_err-outputs-clause-fault : goal.returns-in_err-outputs-clause-fault
returns-in_err-outputs-clause-fault c =
    raised (IsFaultBehind HeaderWants c.args.tokens.now) c.from_residual-in_err-outputs.result c.in_err-outputs.field-0.0 c.from_residual-in_err-outputs.ensures.1
    (outputs_fault c.args.tokens.now c.count.new.self c.count-2.new.self c.value_list.new.tokens c.in_ok-gates.gates c.in_ok-wires.wires c.in_ok-inputs.inputs c.in_err-outputs.field-0.0
    c.in_ok-gates.ensures.within c.in_ok-wires.ensures.within c.in_ok-gates.ensures.number c.in_ok-wires.ensures.number c.in_ok-inputs.ensures.within c.in_ok-inputs.ensures.list c.in_err-outputs.ensures.fault)

pub returns-clause-header : goal.returns-clause-header
returns-clause-header c =
    header_taken c.args.tokens.now c.count.new.self c.count-2.new.self c.value_list.new.tokens c.value_list-2.new.tokens
    (record { gates = c.in_ok-gates.gates; wires = c.in_ok-wires.wires; inputs = c.in_ok-inputs.inputs; outputs = c.in_ok-outputs.outputs })
    c.in_ok-gates.ensures.within c.in_ok-wires.ensures.within c.in_ok-gates.ensures.number c.in_ok-wires.ensures.number c.in_ok-inputs.ensures.within c.in_ok-inputs.ensures.list
    c.in_ok-outputs.ensures.within c.in_ok-outputs.ensures.list
