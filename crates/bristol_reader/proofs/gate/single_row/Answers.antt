use Rattle.bristol_reader.specs.Gates.{IsWrongSingle}
use Rattle.bristol_reader.proofs.Exits.{raised}
use Rattle.bristol_reader.proofs.Wires.{wrong_input, wrong_single}
use Rattle.bristol_reader.proofs.gate.single_row.Goals as goal

pub returns-in_err-check_input-clause-fault : goal.returns-in_err-check_input-clause-fault
returns-in_err-check_input-clause-fault c =
    raised (IsWrongSingle c.args.set.now c.args.name c.args.input c.args.out) c.from_residual.result c.in_err-check_input.field-0.0 c.from_residual.ensures.1
    (wrong_input c.args.set.now c.args.name c.args.input c.args.out c.in_err-check_input.field-0.0 c.requires c.in_err-check_input.ensures.fault)

pub returns-in_err-out-clause-fault : goal.returns-in_err-out-clause-fault
returns-in_err-out-clause-fault c =
    raised (IsWrongSingle c.args.set.now c.args.name c.args.input c.args.out) c.from_residual-in_err-out.result c.in_err-out.field-0.0 c.from_residual-in_err-out.ensures.1
    (wrong_single c.args.set.now c.args.name c.args.input c.args.out c.in_err-out.field-0.0 c.requires c.in_ok-check_input.ensures.input c.in_err-out.ensures.fault)
