use Rattle.std.proofs.Common.{◌≡◌, [], ◌+◌, ◌*◌, arith, slice_index_or}
use Rattle.sha2.specs.Sha256.{initial_hash_256, padded_message}
use Rattle.sha_lanes.specs.Lanes.{lane}
use Rattle.sha_lanes.proofs.Block.{before_rounds, compressed, first_scheduled, still_scheduled}
use Rattle.sha_lanes.proofs.rounds.hash_values.Goals as goal

pub loop-turn-init : goal.loop-turn-init
loop-turn-init c = λ j low.
    let block = padded_message (slice_index_or c.args.messages.now j []) in
    let hash = initial_hash_256 in
    let written = first_scheduled block c.first_words.new.words j (λ k place. c.first_words.ensures.value j k low place) in
    let after_4 = c.first_four_rounds-state.ensures j low block hash written
    (before_rounds block hash c.initial_hashes-start.result j (c.initial_hashes-start.ensures j low)) in
    let after_8 = c.first_four_rounds-state-2.ensures j low block hash written after_4 in
    let after_12 = c.first_four_rounds-state-3.ensures j low block hash written after_8 in
    let after_16 = c.first_four_rounds-state-4.ensures j low block hash written after_12 in
    let after_20 = c.four_rounds-state.ensures j low block hash (written, after_16) in
    let after_24 = c.four_rounds-state-2.ensures j low block hash after_20 in
    let after_28 = c.four_rounds-state-3.ensures j low block hash after_24 in
    let after_32 = c.four_rounds-state-4.ensures j low block hash after_28 in
    (rw c.copy_from_slice.ensures.after (still_scheduled block _ _ j 32 (omega arith) after_32.0), after_32.1)

pub loop-turn-preserved : goal.loop-turn-preserved
loop-turn-preserved c = λ j low.
    let block = padded_message (slice_index_or c.args.messages.now j []) in
    let half = c.four_rounds-half.ensures j low block initial_hash_256 (c.loop-turn.invariant j low) in
    let whole = c.four_rounds-whole.ensures j low block initial_hash_256 half in
    let next : 8 * c.loop-turn.turn + 4 + 4 ≡ 8 * (c.loop-turn.turn + 1) = omega arith in
    rw next at whole

pub returns-clause-value : goal.returns-clause-value
returns-clause-value c = λ j low.
    let done : 8 * c.loop-turn.turn ≡ 64 = omega (arith, c.loop-turn.auto.turn-end (omega arith)) in
    let after_64 = rw done at (c.loop-turn.invariant j low) in
    compressed initial_hash_256 (padded_message (slice_index_or c.args.messages.now j [])) (lane j c.initial_hashes-start.result)
    (lane j c.loop-turn.state) _ (c.initial_hashes-start.ensures j low) after_64.1 (c.add_states.ensures j low)
