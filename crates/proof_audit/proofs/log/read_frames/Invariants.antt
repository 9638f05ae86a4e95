use Rattle.std.proofs.Common.{◌≡◌, ◌+◌, ℕ, List, length}
use Rattle.proof_audit.specs.Sessions.{IsLogUnderWay}
use Rattle.proof_audit.proofs.log.read_frames.Given as goal

abbrev pub invariant-frames : goal.invariant-frames
invariant-frames l = record {
  goes_on : (log : List ℕ) → IsLogUnderWay l.judge log l.fn.reader l.fn.stage → IsLogUnderWay l.judge log l.reader l.stage;
  sized : l.reader.decoder.received + length l.reader.rest.now ≡ l.fn.reader.decoder.received + length l.fn.reader.rest.now;
}

abbrev pub decreases-frames : goal.decreases-frames
decreases-frames l = length l.reader.rest.now
