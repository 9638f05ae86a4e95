-- Words in a row.
use Rattle.std.specs.Prelude.{ℕ, ◌+◌, List, map}
use Rattle.std.specs.List.{range_with_len}
use Rattle.zk_model.specs.Coins.{coin_word}

-- so many words of a stream, from a place on
abbrev pub coin_words : List ℕ → ℕ → ℕ → ℕ → List ℕ
coin_words box_key stream first count =
    map (λ i. coin_word box_key stream (first + i)) (range_with_len 0 count)
