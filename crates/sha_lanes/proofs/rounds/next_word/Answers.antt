use Rattle.std.proofs.Common.{arith, slice_index}
use Rattle.sha_lanes.proofs.Block.{one_word, word_written}
use Rattle.sha_lanes.proofs.rounds.next_word.Goals as goal

pub returns : goal.returns
returns c = λ j low block held.
    let value = one_word block c.args.words.now j c.args.count (slice_index c.add-word.result j) c.requires.low c.requires.high held
    (rw (c.add-word.ensures j low, c.add.ensures j low, c.add-older.ensures j low, c.small_sigma1.ensures j low, c.small_sigma0.ensures j low)) in
    (word_written block c.args.words.now _ j c.args.count (omega arith) held value, value)
