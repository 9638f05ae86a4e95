use Rattle.std.proofs.Common.{ℕ, ◌/◌, ◌^◌, ap, bit_xor, slice_index}
use Rattle.sha_lanes.proofs.Bitwise.{rotated_two}
use Rattle.sha_lanes.proofs.LaneLemmas.{lane_fits}
use Rattle.sha_lanes.proofs.words.turned_and_shifted.Goals as goal

pub returns : goal.returns
returns c = λ j low.
    rw (c.xor.ensures j low, c.rotate_right-rotated.ensures j low, c.xor-inner.ensures j low, c.rotate_right.ensures j low, c.shift_right.ensures j low)
    (ap (λ (n : ℕ). bit_xor n (slice_index c.args.x j / 2 ^ c.args.lost))
    (rotated_two (slice_index c.args.x j) c.args.first c.args.second c.requires.at_least_one.0 c.requires.at_least_one.1 c.requires.bounded
    (lane_fits c.args.x j c.fits-x.0 c.fits-x.1 low)))
