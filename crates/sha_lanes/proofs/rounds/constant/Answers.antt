use Rattle.sha2.specs.Sha256.{round_constants}
use Rattle.sha_lanes.proofs.LaneLemmas.{splatted}
use Rattle.sha_lanes.proofs.rounds.constant.Goals as goal

pub returns : goal.returns
returns c = λ j low. splatted round_constants c.args.count j c.requires low
