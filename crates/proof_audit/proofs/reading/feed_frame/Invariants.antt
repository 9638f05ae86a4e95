use Rattle.std.proofs.Common.{length}
use Rattle.proof_audit.specs.Reading.{IsFed}
use Rattle.proof_audit.proofs.reading.feed_frame.Given as goal

abbrev pub invariant-pieces : goal.invariant-pieces
invariant-pieces l = IsFed l.fn._place l.fn.log l.fn.decoder l.rest l.decoder

abbrev pub decreases-pieces : goal.decreases-pieces
decreases-pieces l = length l.rest
