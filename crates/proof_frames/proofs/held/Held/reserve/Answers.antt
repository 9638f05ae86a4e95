use Rattle.proof_frames.proofs.Lengths.{short_row}
use Rattle.proof_frames.proofs.held.Held.reserve.Goals as goal

pub raw_length-requires : goal.raw_length-requires
raw_length-requires c = rw c.at-longest.ensures (short_row c.args.place 129 c.requires.short)
