-- What the prover finds of both units of the round: the leaf that it may know of each tree, and its pairs, which the
-- verifier's keys fit.
use Rattle.std.proofs.Common.{◌≡◌, ◌≢◌, ℕ, zero, suc, ◌+◌, ◌*◌, ◌^◌, ◌<◌, true, false, List, [], ◌∷◌, refl, sym, slice_index, map, flat_map, take, length, arith}
use Rattle.std.specs.Prelude.{slice_index_or}
use Rattle.std.specs.List.{range_with_len}
use Rattle.rand_chacha.specs.Block.{block_word, double_rounds, column_round, diagonal_round, quarter_round}
use Rattle.rand_core.specs.Steps.{u32_at}
use Rattle.zk_model.proofs.ExampleTools.{one_only, two_only, bytes_by_test}
use Rattle.zk_model.proofs.ExampleRound.{params, prover_unit_of, prover, grant, first_ask, second_ask, first_reply, second_reply, round}
use Rattle.zk_model.specs.Bytes.{AreBytes, xor_all}
use Rattle.zk_model.specs.Coins.{coin_word}
use Rattle.zk_model.specs.Mac.{Pair, values_of, macs_of}
use Rattle.zk_model.specs.Extension.{code_outputs}
use Rattle.zk_model.specs.Tree.{ancestor, side_away, leaf_value, IsPunctured}
use Rattle.zk_model.specs.Files.{ProverUnit}
use Rattle.zk_model.specs.Transcript.{Hello}
use Rattle.zk_model.specs.Correlations.{UnitRound, IsNoiseOf, tree_view, IsExtension, IsUnitView, unit_rounds, IsProverView}
use Rattle.zk_model.specs.Files as files

-- ---- a tree of height 1 without one of its two leaves

-- the node that is found stands at both places of its level
abbrev only : List ℕ → ℕ → ℕ → List ℕ
only node level j = node

-- no node but the root is above both leaves
root_alone : (place : ℕ) → ancestor 1 place 0 ≡ 0 → (level j : ℕ) → level < 1 → j < 2 ^ level → j ≢ ancestor 1 place level → ⊥
root_alone place root zero zero low below away = away (sym root)
root_alone place root zero (suc j) low below away = omega (arith, below)
root_alone place root (suc level) j low below away = omega (arith, low)

-- without one leaf, the other node is the sum that was chosen
without : (place : ℕ) (node leaves : List ℕ) → ancestor 1 place 0 ≡ 0 → AreBytes 16 node → xor_all (node ∷ []) ≡ node → length leaves ≡ 2
    → ((j : ℕ) → j < 2 → j ≢ place → slice_index leaves j ≡ leaf_value node) → slice_index leaves place ≡ 0 → IsPunctured 1 place (node ∷ []) leaves
without place node leaves root bytes same whole others missing = record {
  node = only node;
  bytes = λ level j low below away. bytes;
  halves = λ level j side low below away. absurd (root_alone place root level j low below away);
  summed = one_only (λ level. xor_all (map (λ j. only node (level + 1) (2 * j + side_away 1 place level)) (range_with_len 0 (2 ^ level))) ≡ slice_index_or (node ∷ []) level []) same;
  whole = whole;
  others = others;
  missing = missing;
}

without_left : (node : List ℕ) (leaf : ℕ) → AreBytes 16 node → xor_all (node ∷ []) ≡ node → leaf ≡ leaf_value node
    → IsPunctured 1 0 (node ∷ []) (0 ∷ leaf ∷ [])
without_left node leaf bytes same is = without 0 node (0 ∷ leaf ∷ []) refl bytes same refl
    (two_only (λ j. j ≢ 0 → slice_index (0 ∷ leaf ∷ []) j ≡ leaf_value node) (λ away. absurd (away refl)) (λ away. is)) refl

without_right : (node : List ℕ) (leaf : ℕ) → AreBytes 16 node → xor_all (node ∷ []) ≡ node → leaf ≡ leaf_value node
    → IsPunctured 1 1 (node ∷ []) (leaf ∷ 0 ∷ [])
without_right node leaf bytes same is = without 1 node (leaf ∷ 0 ∷ []) refl bytes same refl
    (two_only (λ j. j ≢ 1 → slice_index (leaf ∷ 0 ∷ []) j ≡ leaf_value node) (λ away. is) (λ away. absurd (away refl))) refl

-- the pairs of a unit with one tree, by the noise of that tree
extended : (unit : ProverUnit) (by : UnitRound) (noise pairs : List Pair) → IsNoiseOf (tree_view params unit by 0) noise
    → values_of pairs ≡ code_outputs prover.code_seed (values_of (take params.base unit.pairs)) (flat_map values_of (noise ∷ []))
    → macs_of pairs ≡ code_outputs prover.code_seed (macs_of (take params.base unit.pairs)) (flat_map macs_of (noise ∷ []))
    → IsExtension params prover.code_seed unit by pairs
extended unit by noise pairs noisy values macs = record {
  noise = noise ∷ [];
  count = refl;
  each = one_only (λ t. IsNoiseOf (tree_view params unit by t) (slice_index_or (noise ∷ []) t [])) noisy;
  values = values;
  macs = macs;
}

-- ---- the first unit, whose place 1 is hidden, and the second, whose place 0 is

abbrev first_unit_round : UnitRound
first_unit_round = record { asks = first_ask ∷ []; replies = first_reply ∷ [] }

abbrev second_unit_round : UnitRound
second_unit_round = record { asks = second_ask ∷ []; replies = second_reply ∷ [] }

abbrev first_node : List ℕ
first_node = 136 ∷ 229 ∷ 200 ∷ 1 ∷ 112 ∷ 61 ∷ 144 ∷ 224 ∷ 66 ∷ 57 ∷ 164 ∷ 36 ∷ 239 ∷ 119 ∷ 57 ∷ 72 ∷ []

abbrev second_node : List ℕ
second_node = 167 ∷ 153 ∷ 159 ∷ 172 ∷ 197 ∷ 222 ∷ 156 ∷ 94 ∷ 90 ∷ 52 ∷ 94 ∷ 182 ∷ 112 ∷ 47 ∷ 92 ∷ 52 ∷ []

abbrev first_noise : List Pair
first_noise = record { x = 0; m = 40599947921909128 } ∷ record { x = 39456919262213790; m = 1425776292189220982 } ∷ []

abbrev second_noise : List Pair
second_noise = record { x = 802922946620084860; m = 674248719802933398 } ∷ record { x = 0; m = 2205882858090764711 } ∷ []

abbrev pub first_pairs : List Pair
first_pairs = record { x = 68; m = 40599947921909244 } ∷ record { x = 39456919262213850; m = 1425776292189221082 } ∷ []

abbrev pub second_pairs : List Pair
second_pairs = record { x = 802922946620084928; m = 674248719802933514 } ∷ record { x = 60; m = 2205882858090764811 } ∷ []

first_noisy : IsNoiseOf (tree_view params (prover_unit_of true 21) first_unit_round 0) first_noise
first_noisy = (40599947921909128 ∷ 0 ∷ [], without_right first_node 40599947921909128 (bytes_by_test 16 first_node refl refl) refl refl, refl)

second_noisy : IsNoiseOf (tree_view params (prover_unit_of false 31) second_unit_round 0) second_noise
second_noisy = (0 ∷ 2205882858090764711 ∷ [], without_left second_node 2205882858090764711 (bytes_by_test 16 second_node refl refl) refl refl, refl)

first_extended : IsExtension params (prover.code_seed) (prover_unit_of true 21) first_unit_round first_pairs
unfolding coin_word block_word double_rounds column_round diagonal_round quarter_round u32_at
first_extended = extended (prover_unit_of true 21) first_unit_round first_noise first_pairs first_noisy refl refl

second_extended : IsExtension params (prover.code_seed) (prover_unit_of false 31) second_unit_round second_pairs
unfolding coin_word block_word double_rounds column_round diagonal_round quarter_round u32_at
second_extended = extended (prover_unit_of false 31) second_unit_round second_noise second_pairs second_noisy refl refl

-- ---- both units

abbrev pub pairs : List Pair
pairs = record { x = 68; m = 40599947921909244 } ∷ record { x = 39456919262213850; m = 1425776292189221082 } ∷ record { x = 802922946620084928; m = 674248719802933514 } ∷ record { x = 60; m = 2205882858090764811 } ∷ []

pub seen : (hello : Hello) → IsProverView prover (record { hello = hello; grant = grant; rounds = round ∷ [] }) pairs
seen hello = record {
  units = first_pairs ∷ second_pairs ∷ [];
  count = refl;
  each = two_only (λ i. IsUnitView params prover.code_seed (files.prover_unit prover (0 + i)) (unit_rounds (round ∷ []) i) (slice_index_or (first_pairs ∷ second_pairs ∷ []) i [])) first_extended second_extended;
  joined = refl;
}
