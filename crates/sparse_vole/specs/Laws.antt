-- What the definitions of a noise vector promise.
use Rattle.std.specs.Prelude.{◌≡◌, ℕ, ◌<◌, List, length, slice_set, All}
use Rattle.zk_model.specs.Field.{IsElement}
use Rattle.zk_model.specs.Mac.{Pair, fitting_key, AreKeysOf}
use Rattle.zk_model.specs.Extension.{leaf_offset_of, noise_vector}

-- Of a base pair with its key, the verifier's leaves fit the noise vector that the prover makes of the answer and of
-- all leaves but the one at alpha: at each place v ≡ M + x * key.
abbrev pub NoiseKeepsKeys : Type 0
NoiseKeepsKeys = (key alpha base_key correction : ℕ) (base : Pair) (leaves : List ℕ)
    → base_key ≡ fitting_key key base → All IsElement leaves → alpha < length leaves
    → AreKeysOf key
    (noise_vector alpha base correction (leaf_offset_of key base_key correction leaves) (slice_set leaves alpha 0))
    leaves
