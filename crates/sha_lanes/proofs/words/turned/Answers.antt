use Rattle.std.proofs.Common.{slice_index}
use Rattle.sha_lanes.proofs.Bitwise.{rotated_three}
use Rattle.sha_lanes.proofs.LaneLemmas.{lane_fits}
use Rattle.sha_lanes.proofs.words.turned.Goals as goal

pub returns : goal.returns
returns c = λ j low.
    rw (c.rotate_right-3.ensures j low, c.xor-outer.ensures j low, c.rotate_right-2.ensures j low, c.xor-inner.ensures j low, c.rotate_right.ensures j low)
    (rotated_three (slice_index c.args.x j) c.args.first c.args.second c.args.third c.requires.at_least_one.0 c.requires.at_least_one.1 c.requires.at_least_one.2 c.requires.bounded
    (lane_fits c.args.x j c.fits-x.0 c.fits-x.1 low))
