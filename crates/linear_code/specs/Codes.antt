-- Codes, and the lists that hold their columns.
use Rattle.std.specs.Prelude.{◌≡◌, ℕ, ◌+◌, ◌*◌, ◌%◌, ◌^◌, ◌≤◌, List, length, map, sum_by, slice_index}
use Rattle.std.specs.List.{range_with_len}
use Rattle.zk_model.specs.Field.{prime}
use Rattle.zk_model.specs.Coins.{coin_word}
use Rattle.zk_model.specs.Extension.{code_column}
use Rattle.zk_model.specs.declared.limits.TheConstants.{MAX_BASE}

-- the seed, how many base elements there are, and for how many outputs there are columns
pub record Code : Type 0 where
  pub seed : List ℕ
  pub base : ℕ
  pub count : ℕ

-- the first base places that a seed chooses, column by column
abbrev pub places_of : List ℕ → ℕ → ℕ → List ℕ
places_of code_seed base count = map (λ i. coin_word code_seed 0 i % base) (range_with_len 0 count)

-- these are the places of all columns, ten for each
pub record IsCode (code_seed : List ℕ) (base count : ℕ) (places : List ℕ) : Type 0 where
  pub least : 10 ≤ base
  pub most : base ≤ MAX_BASE
  pub few : count ≤ 2 ^ 26
  pub whole : length places ≡ 10 * count
  pub chosen : places ≡ places_of code_seed base (10 * count)

-- output j, from its entry of noise
abbrev pub output_at : List ℕ → List ℕ → ℕ → ℕ → ℕ
output_at code_seed base j entry =
    (sum_by (slice_index base) (code_column code_seed (length base) j) + entry) % prime
