use Rattle.std.proofs.Common.{[], slice_index_or}
use Rattle.sha_lanes.proofs.Block.{block_words}
use Rattle.sha_lanes.proofs.rounds.first_words.Goals as goal

pub returns-clause-value : goal.returns-clause-value
returns-clause-value c = λ j k low place.
    rw c.copy_from_slice.ensures.after
    (block_words (slice_index_or c.args.messages.now j []) _ _ _ _ _ _ _ _ j (c.message_word.ensures.long j low)
    (c.message_word.ensures.value j low) (c.message_word-2.ensures.value j low) (c.message_word-3.ensures.value j low)
    (c.message_word-4.ensures.value j low) (c.splat.ensures j low) (c.splat-zero.ensures j low) (c.splat-2.ensures j low) k place)
