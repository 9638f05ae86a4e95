use Rattle.std.proofs.Common.{sym, ◌∙◌, ap}
use Rattle.bristol_reader.specs.Gates.{IsWrongPair, flag_of}
use Rattle.bristol_reader.proofs.Exits.{raised}
use Rattle.bristol_reader.proofs.Wires.{wrong_first, wrong_second, wrong_pair}
use Rattle.bristol_reader.proofs.gate.pair_row.Goals as goal

pub returns-in_err-a-clause-fault : goal.returns-in_err-a-clause-fault
returns-in_err-a-clause-fault c =
    raised (IsWrongPair c.args.set.now c.args.name c.args.a c.args.b c.args.out) c.from_residual.result c.in_err-a.field-0.0 c.from_residual.ensures.1
    (wrong_first c.args.set.now c.args.name c.args.a c.args.b c.args.out c.in_err-a.field-0.0 c.requires c.in_err-a.ensures.fault)

pub returns-in_err-b-clause-fault : goal.returns-in_err-b-clause-fault
returns-in_err-b-clause-fault c =
    raised (IsWrongPair c.args.set.now c.args.name c.args.a c.args.b c.args.out) c.from_residual-in_err-b.result c.in_err-b.field-0.0 c.from_residual-in_err-b.ensures.1
    (wrong_second c.args.set.now c.args.name c.args.a c.args.b c.args.out c.in_err-b.field-0.0 c.requires
    (ap (flag_of c.args.set.now) (sym c.in_ok-a.ensures.wire.0) ∙ c.in_ok-a.ensures.wire.1) c.in_err-b.ensures.fault)

pub returns-in_err-out-clause-fault : goal.returns-in_err-out-clause-fault
returns-in_err-out-clause-fault c =
    raised (IsWrongPair c.args.set.now c.args.name c.args.a c.args.b c.args.out) c.from_residual-in_err-out.result c.in_err-out.field-0.0 c.from_residual-in_err-out.ensures.1
    (wrong_pair c.args.set.now c.args.name c.args.a c.args.b c.args.out c.in_err-out.field-0.0 c.requires
    (ap (flag_of c.args.set.now) (sym c.in_ok-a.ensures.wire.0) ∙ c.in_ok-a.ensures.wire.1)
    (ap (flag_of c.args.set.now) (sym c.in_ok-b.ensures.wire.0) ∙ c.in_ok-b.ensures.wire.1) c.in_err-out.ensures.fault)
