use Rattle.std.proofs.Common.{arith}
use Rattle.std.proofs.lemmas.List.{take_all}
use Rattle.wire_auth.proofs.values.carry_values.Goals as goal

pub follow_values-requires : goal.follow_values-requires
follow_values-requires c =
    (c.in_ok-begun.ensures c.args.inputs.now (take_all c.args.program.now.inputs c.args.inputs.now (omega (arith, c.requires.inputs)))).whole

pub returns : goal.returns
returns c = c.follow_values.ensures c.args.public.now c.args.inputs.now c.requires.inputs
    (c.in_ok-begun.ensures c.args.inputs.now (take_all c.args.program.now.inputs c.args.inputs.now (omega (arith, c.requires.inputs))))
