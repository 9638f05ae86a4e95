use Rattle.std.proofs.Common.{ℕ, [], ◌*◌, ◌<◌, slice_index_or}
use Rattle.sha2.specs.Sha256.{initial_hash_256, padded_message}
use Rattle.sha_lanes.specs.Lanes.{IsRoundsAt}
use Rattle.sha_lanes.proofs.rounds.hash_values.Given as goal

abbrev pub invariant-loop-turn : goal.invariant-loop-turn
invariant-loop-turn l = (j : ℕ) → j < 8
    → IsRoundsAt (padded_message (slice_index_or l.messages j [])) initial_hash_256 l.words l.state j (8 * l.turn)
