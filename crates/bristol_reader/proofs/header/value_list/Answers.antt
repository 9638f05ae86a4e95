use Rattle.std.proofs.Common.{arith}
use Rattle.bristol_reader.specs.Wants.{IsFaultBehind}
use Rattle.bristol_reader.specs.Headers.{ListWants}
use Rattle.bristol_reader.proofs.Exits.{raised}
use Rattle.bristol_reader.proofs.Lists.{more_sizes, values_fault, sizes_fault}
use Rattle.bristol_reader.proofs.header.value_list.Goals as goal

pub returns-in_err-values-clause-fault : goal.returns-in_err-values-clause-fault
returns-in_err-values-clause-fault c =
    raised (IsFaultBehind (ListWants c.args.wires) c.args.tokens.now) c.from_residual.result c.in_err-values.field-0.0 c.from_residual.ensures.1
    (values_fault c.args.tokens.now c.args.wires c.in_err-values.field-0.0 c.in_err-values.ensures.fault)

pub returns-in_err-sum-clause-fault : goal.returns-in_err-sum-clause-fault
returns-in_err-sum-clause-fault c =
    raised (IsFaultBehind (ListWants c.args.wires) c.args.tokens.now) c.from_residual-in_err-sum.result c.in_err-sum.field-0.0 c.from_residual-in_err-sum.ensures.1
    (sizes_fault c.args.tokens.now c.sizes.tokens c.in_ok-values.values c.sizes.counter c.sizes.sum c.args.wires c.in_err-sum.field-0.0 (omega arith) c.sizes.invariant c.in_err-sum.ensures.fault)

pub sizes-preserved : goal.sizes-preserved
sizes-preserved c =
    more_sizes c.args.tokens.now c.sizes.tokens c.size.new.self c.in_ok-values.values c.sizes.counter c.sizes.sum c.args.wires c.in_ok-sum.field-0 c.in_ok-sum.ensures.within
    c.in_ok-sum.ensures.number c.sizes.invariant
