use Rattle.bristol_reader.specs.Gates.{IsFaultIn}
use Rattle.bristol_reader.proofs.GateTokens.{pair_taken, pair_wrong}
use Rattle.bristol_reader.proofs.Exits.{raised}
use Rattle.bristol_reader.proofs.gate.read_pair.Goals as goal

pub returns-in_err-row-clause-fault : goal.returns-in_err-row-clause-fault
returns-in_err-row-clause-fault c =
    raised (IsFaultIn 2 c.args.set.now c.args.tokens.now) c.from_residual-in_err-row.result c.in_err-row.field-0.0 c.from_residual-in_err-row.ensures.1
    (pair_wrong c.args.set.now c.args.tokens.now c.number.new.self c.number-2.new.self c.number-3.new.self c.pair.new.self c.in_ok-a.a c.in_ok-b.b c.in_ok-out.out c.in_ok-name.name c.in_err-row.field-0.0
    c.in_ok-a.ensures.number c.in_ok-b.ensures.number c.in_ok-out.ensures.number c.in_ok-name.ensures.name c.in_err-row.ensures.fault)

pub returns-clause-gate : goal.returns-clause-gate
returns-clause-gate c =
    pair_taken c.args.set.now c.args.tokens.now c.number.new.self c.number-2.new.self c.number-3.new.self c.pair.new.self c.in_ok-a.a c.in_ok-b.b c.in_ok-out.out c.in_ok-name.name c.in_ok-row.row c.requires
    c.in_ok-a.ensures.number c.in_ok-b.ensures.number c.in_ok-out.ensures.number c.in_ok-name.ensures.name c.in_ok-row.ensures.row c.in_ok-row.ensures.fits
