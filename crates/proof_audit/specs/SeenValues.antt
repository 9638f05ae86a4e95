-- The values of the pairs that a round makes: what was dealt and asked fixes them, whatever the replies hold.
use Rattle.std.specs.Prelude.{ℕ, ◌+◌, ◌^◌, if◌then◌else◌, nat_eq, List, [], flat_map, map, take, zip, slice_index_or}
use Rattle.std.specs.List.{range_with_len}
use Rattle.zk_model.specs.Field.{◌+ₚ◌, ◌-ₚ◌, ◌*ₚ◌}
use Rattle.zk_model.specs.Mac.{Pair, pair_at, values_of}
use Rattle.zk_model.specs.Extension.{code_outputs}
use Rattle.zk_model.specs.Files.{ProverFile, ProverUnit, prover_unit}
use Rattle.zk_model.specs.Transcript.{TreeAsk}
use Rattle.zk_model.specs.declared.Params.{Params}
use Rattle.vole_extend.specs.Levels.{flip_place}
use Rattle.vole_extend.specs.Rounds.{ask_at}

-- so many numbers, 0 but at one place
abbrev pub only_at : ℕ → ℕ → ℕ → List ℕ
only_at count place value = map (λ j. if nat_eq j place then value else 0) (range_with_len 0 count)

-- the values of the noise of a tree: at the hidden place that of its base pair, as corrected
abbrev pub tree_values : Params → ProverUnit → ℕ → TreeAsk → List ℕ
tree_values params unit tree ask =
    only_at (2 ^ params.height) (flip_place (slice_index_or unit.trees tree []) ask.flips)
    ((pair_at unit.pairs (params.base + tree)).x +ₚ ask.base_correction)

-- those of all trees of a unit, one tree after another
abbrev pub noise_values : Params → ProverUnit → List TreeAsk → ℕ → List ℕ
noise_values params unit asks count =
    flat_map (λ tree. tree_values params unit tree (ask_at asks tree)) (range_with_len 0 count)

-- the values of a unit's pairs
abbrev pub unit_values : Params → List ℕ → ProverUnit → List TreeAsk → List ℕ
unit_values params code_seed unit asks =
    code_outputs code_seed (values_of (take params.base unit.pairs)) (noise_values params unit asks params.trees)

-- those of so many units from this one on, by what was asked for each
abbrev pub round_values : ProverFile → ℕ → List (List TreeAsk) → ℕ → List ℕ
round_values file start asked count =
    flat_map (λ i. unit_values file.params file.code_seed (prover_unit file (start + i)) (slice_index_or asked i []))
    (range_with_len 0 count)

-- pairs of these values, whose MACs fit these keys under the verifier's one key
abbrev pub fitted_pairs : ℕ → List ℕ → List ℕ → List Pair
fitted_pairs key values keys = map (λ q. record { x = q.0; m = q.1 -ₚ q.0 *ₚ key }) (zip values keys)

-- the first values of pairs, so many, each with its correction added
abbrev pub corrected_values : ℕ → List Pair → List ℕ → List ℕ
corrected_values count pairs corrections = map (λ q. q.0.x +ₚ q.1) (take count (zip pairs corrections))
