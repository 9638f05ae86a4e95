-- What the words of a unit's two streams stand for.
use Rattle.std.specs.Prelude.{ℕ, ◌+◌, ◌*◌, ◌%◌, nat_eq, List, ◌++◌, slice_index}
use Rattle.std.specs.Int.{w64, to_le_bytes}
use Rattle.zk_model.specs.Bytes.{LeftRight}
use Rattle.zk_model.specs.Field.{from_word}
use Rattle.zk_model.specs.Mac.{Pair}
use Rattle.zk_model.specs.Extension.{choice_of}
use Rattle.zk_model.specs.Files.{Transfer}

-- the pair of words 2j and 2j + 1
abbrev pub word_pair : List ℕ → ℕ → Pair
word_pair words j =
    record { x = from_word (slice_index words (2 * j)); m = from_word (slice_index words (2 * j + 1)) }

-- words i and i + 1 as 16 bytes
abbrev pub word_pad : List ℕ → ℕ → List ℕ
word_pad words i = to_le_bytes w64 (slice_index words i) ++ to_le_bytes w64 (slice_index words (i + 1))

-- both pads of words 5i to 5i + 3
abbrev pub word_pads : List ℕ → ℕ → LeftRight
word_pads words i = record { left = word_pad words (5 * i); right = word_pad words (5 * i + 2) }

-- the prover's half, by the lowest bit of word 5i + 4
abbrev pub word_transfer : List ℕ → ℕ → Transfer
word_transfer words i =
    let bit = nat_eq (slice_index words (5 * i + 4) % 2) 1
    in record { bit = bit; pad = choice_of bit (word_pads words i) }
