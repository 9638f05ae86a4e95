use Rattle.std.proofs.Common.{slice_index}
use Rattle.sha_lanes.proofs.Bitwise.{maj_by_one}
use Rattle.sha_lanes.proofs.words.maj.Goals as goal

pub returns : goal.returns
returns c = λ j low.
    rw (c.xor.ensures j low, c.and.ensures j low, c.xor-upper.ensures j low, c.xor-lower.ensures j low)
    (maj_by_one (slice_index c.args.x j) (slice_index c.args.y j) (slice_index c.args.z j))
