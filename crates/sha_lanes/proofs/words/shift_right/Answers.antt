use Rattle.sha_lanes.proofs.LaneLemmas.{shifts_right}
use Rattle.sha_lanes.proofs.words.shift_right.Goals as goal

pub returns : goal.returns
returns c = shifts_right c.args.count c.args.x c.fits-x.0
