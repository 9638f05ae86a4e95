use Rattle.std.proofs.Common.{◌≡◌, ◌+◌, arith}
use Rattle.sha_lanes.proofs.rounds.four_rounds.Goals as goal

pub returns : goal.returns
returns c = λ j low block hash held.
    let second : c.args.count + 1 + 1 ≡ c.args.count + 2 = omega arith in
    let third : c.args.count + 2 + 1 ≡ c.args.count + 3 = omega arith in
    let fourth : c.args.count + 3 + 1 ≡ c.args.count + 4 = omega arith in
    let after_one = c.later_round-state.ensures j low block hash held in
    let after_two = c.later_round-state-2.ensures j low block hash after_one in
    let after_three = c.later_round-state-3.ensures j low block hash (rw second at after_two) in
    let after_four = c.later_round.ensures j low block hash (rw third at after_three) in
    rw fourth at after_four
