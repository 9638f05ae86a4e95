use Rattle.std.proofs.Common.{subst}
use Rattle.proof_frames.specs.Readings.{IsReading}
use Rattle.proof_frames.proofs.Decoding.{sound_reading, taken_within}
use Rattle.proof_frames.proofs.decoder.Decoder.wants.Goals as goal

pub returns-then-is_some-clause-sound : goal.returns-then-is_some-clause-sound
returns-then-is_some-clause-sound c =
    let d = c.self.inside in
    subst IsReading c.self.view_is (sound_reading d.expected d.received d.bad d.taken d.held c.self.invariant.0)

pub overflow_sub-result : goal.overflow_sub-result
overflow_sub-result c =
    let d = c.self.inside in
    let within = taken_within d.expected d.bad c.in-Some.place d.received d.taken d.held c.in-Some.is c.self.invariant.0 in
    rw c.frame_length.ensures within

pub returns-in-Some-clause-sound : goal.returns-in-Some-clause-sound
returns-in-Some-clause-sound c =
    let d = c.self.inside in
    subst IsReading c.self.view_is (sound_reading d.expected d.received d.bad d.taken d.held c.self.invariant.0)
