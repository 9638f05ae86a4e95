use Rattle.std.proofs.Common.{refl, arith}
use Rattle.proof_frames.proofs.Stops.{stops}
use Rattle.proof_frames.proofs.held.Held.take.Goals as goal

pub returns-then-not-take_byte : goal.returns-then-not-take_byte
returns-then-not-take_byte c =
    let steps = c.if-not-take_byte.ensures in
    stops c.args.place c.args.self.now c.loop-rest.self c.take_byte.new.self c.args.piece.now c.loop-rest.rest.now _ c.loop-rest.invariant.holds c.loop-rest.invariant.bytes
    c.loop-rest.invariant.less (omega arith) refl steps.0 steps.1
