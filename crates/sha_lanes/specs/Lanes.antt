-- Four messages side by side: each word is a vector, with one lane for each message.
use Rattle.std.specs.Prelude.{◌≡◌, ℕ, ◌<◌, List, [], ◌∷◌, slice_index, slice_index_or}
use Rattle.sha2.specs.Sha256.{rounds, schedule}

-- lane j of vector k
abbrev pub lane_at : List (List ℕ) → ℕ → ℕ → ℕ
lane_at vectors k j = slice_index (slice_index_or vectors k []) j

-- lane j of eight vectors: a hash value, or the working variables, of message j
abbrev pub lane : ℕ → List (List ℕ) → List ℕ
lane j vectors =
    lane_at vectors 0 j ∷ lane_at vectors 1 j ∷ lane_at vectors 2 j ∷ lane_at vectors 3 j
    ∷ lane_at vectors 4 j ∷ lane_at vectors 5 j ∷ lane_at vectors 6 j ∷ lane_at vectors 7 j ∷ []

-- lane j of the words has so many of the first words of a block's schedule
abbrev pub IsScheduled : List ℕ → List (List ℕ) → ℕ → ℕ → Type 0
IsScheduled block words j count =
    (k : ℕ) → k < count → lane_at words k j ≡ slice_index (schedule block 48) k

-- lane j of the state has the working variables after so many rounds of a block from a hash value
abbrev pub IsAfterRounds : List ℕ → List ℕ → List (List ℕ) → ℕ → ℕ → Type 0
IsAfterRounds block hash state j count = lane j state ≡ rounds hash (schedule block 48) count

-- both of these
abbrev pub IsRoundsAt : List ℕ → List ℕ → List (List ℕ) → List (List ℕ) → ℕ → ℕ → Type 0
IsRoundsAt block hash words state j count =
    IsScheduled block words j count × IsAfterRounds block hash state j count
