use Rattle.sha_lanes.proofs.LaneLemmas.{shifts_rotate}
use Rattle.sha_lanes.proofs.words.rotate_right.Goals as goal

pub returns : goal.returns
returns c = shifts_rotate c.args.count c.requires.at_least_one c.requires.bounded c.args.x c.fits-x.0
