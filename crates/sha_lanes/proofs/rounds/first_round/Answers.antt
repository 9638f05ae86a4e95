use Rattle.sha2.specs.Sha256.{schedule}
use Rattle.sha_lanes.specs.Lanes.{lane}
use Rattle.sha_lanes.proofs.Block.{one_round}
use Rattle.sha_lanes.proofs.rounds.first_round.Goals as goal

pub returns : goal.returns
returns c = λ j low block hash written held.
    one_round hash (schedule block 48) (lane j c.args.state) (lane j c.next_state.result) c.args.count _ _ held
    (c.constant.ensures j low) (written c.args.count c.requires.place) (c.next_state.ensures j low)
