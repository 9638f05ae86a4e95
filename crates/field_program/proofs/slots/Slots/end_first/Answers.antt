use Rattle.std.proofs.Common.{arith}
use Rattle.field_program.proofs.First.{one_ended}
use Rattle.field_program.proofs.slots.Slots.end_first.Goals as goal

pub loop-wire-preserved : goal.loop-wire-preserved
loop-wire-preserved c = one_ended c.args.program.now c.args.ends.now c.loop-wire.wire c.args.self.now c.loop-wire.self c.end.new.self
    (omega (arith, c.loop-wire-test.true, c.public.ensures.count, c.inputs.ensures.count)) c.in_ok-end.ensures c.loop-wire.invariant
