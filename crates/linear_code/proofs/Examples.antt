-- Worked rows, by computation: the seed of 32 zero bytes, and ten base elements, the greatest ones. Their sums go beyond
-- 64 bits.
use Rattle.std.proofs.Common.{◌≡◌, ◌-◌, List, [], ◌∷◌, map, replicate, refl}
use Rattle.std.specs.Prelude.{ℕ}
use Rattle.std.specs.List.{range_with_len}
use Rattle.rand_chacha.specs.Block.{block_word, double_rounds, column_round, diagonal_round, quarter_round}
use Rattle.rand_core.specs.Steps.{u32_at}
use Rattle.zk_model.specs.Field.{prime}
use Rattle.zk_model.specs.Coins.{coin_word}
use Rattle.zk_model.specs.Extension.{code_column, code_outputs}

-- the places 0 and 1 stand there more than once
first_column : code_column (replicate 32 0) 10 0 ≡ 0 ∷ 8 ∷ 7 ∷ 0 ∷ 2 ∷ 1 ∷ 0 ∷ 3 ∷ 1 ∷ 4 ∷ []
unfolding coin_word block_word double_rounds column_round diagonal_round quarter_round u32_at
first_column = refl

base : List ℕ
base = map (λ i. prime - i) (range_with_len 1 10)

two_outputs : code_outputs (replicate 32 0) base (100 ∷ 2305843009213693950 ∷ []) ≡ 64 ∷ 2305843009213693891 ∷ []
unfolding base coin_word block_word double_rounds column_round diagonal_round quarter_round u32_at
two_outputs = refl
