use Rattle.std.proofs.Common.{◌+◌, ◌^◌, ◌<◌, arith, subst}
use Rattle.proof_frames.specs.Readings.{IsReading}
use Rattle.proof_frames.proofs.Decoding.{received_fits, sound_reading}
use Rattle.proof_frames.proofs.decoder.Decoder.received.Goals as goal

pub overflow_add-result : goal.overflow_add-result
overflow_add-result c =
    let d = c.self.inside in
    let fits : d.received + d.taken < 2 ^ 64 = received_fits d.expected d.received d.bad d.taken d.held c.self.invariant.0 (omega arith) in
    omega (arith, fits)

pub returns-clause-sound : goal.returns-clause-sound
returns-clause-sound c =
    let d = c.self.inside in
    subst IsReading c.self.view_is (sound_reading d.expected d.received d.bad d.taken d.held c.self.invariant.0)
