-- Noise vectors, told by what is corrected.
use Rattle.std.specs.Prelude.{◌≡◌, ℕ, List, nat_eq, if◌then◌else◌}
use Rattle.zk_model.specs.Mac.{Pair, corrected_pair}
use Rattle.zk_model.specs.Extension.{noise_vector}

-- The entries are the noise vector at alpha of every base pair and correction that make the pair of this value and
-- this MAC. There is one: the pair itself, with the correction 0.
abbrev pub IsNoise : ℕ → ℕ → ℕ → ℕ → List ℕ → List Pair → Type 0
IsNoise alpha noise base_mac leaf_offset leaves entries =
    (base : Pair) (correction : ℕ) → corrected_pair base correction ≡ record { x = noise; m = base_mac }
    → entries ≡ noise_vector alpha base correction leaf_offset leaves

-- the pair at a place, with its leaf: the hidden one at alpha, and elsewhere 0 under the leaf
abbrev pub entry_at : ℕ → Pair → ℕ × ℕ → Pair
entry_at alpha hidden entry = if nat_eq entry.0 alpha then hidden else record { x = 0; m = entry.1 }
