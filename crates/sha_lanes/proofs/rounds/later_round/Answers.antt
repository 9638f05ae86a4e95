use Rattle.sha2.specs.Sha256.{schedule}
use Rattle.sha_lanes.specs.Lanes.{lane}
use Rattle.sha_lanes.proofs.Block.{one_round}
use Rattle.sha_lanes.proofs.rounds.later_round.Goals as goal

pub returns : goal.returns
returns c = λ j low block hash held.
    let word = c.next_word-word.ensures j low block held.0 in (
      word.0,
      one_round hash (schedule block 48) (lane j c.args.state) (lane j c.next_state.result) c.args.count _ _ held.1
          (c.constant.ensures j low) word.1 (c.next_state.ensures j low),
    )
