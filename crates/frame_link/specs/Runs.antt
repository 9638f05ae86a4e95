-- Bytes with the side that sent each, kept as bytes and as runs of sides.
use Rattle.std.specs.Prelude.{◌≡◌, ℕ, ◌+◌, ◌<◌, ◌≤◌, List, [], ◌∷◌, ◌++◌, take, drop, length, sum_by}
use Rattle.zk_model.specs.Transcript.{bytes_from}
use Rattle.zk_model.specs.declared.Side.{Side}
use Rattle.frame_link.specs.declared.log.Run.{Run}

-- how many bytes a run has
abbrev pub run_count : Run → ℕ
run_count run = run.count

-- each byte with the side of its run
abbrev pub entries : List Run → List ℕ → List (Side × ℕ)
entries [] bytes = []
entries (run ∷ runs) bytes = bytes_from run.side (take run.count bytes) ++ entries runs (drop run.count bytes)

-- a log that is being written: what is logged, and for how many bytes more of one side there is room
pub record WrittenLog : Type 0 where
  pub entries : List (Side × ℕ)
  pub room : ℕ

-- The runs have all bytes; and there is room, in a list of bytes of this length and capacity and a list of runs of these, for so
-- many bytes more in one run.
pub record IsWritten (runs : List Run) (bytes : List ℕ) (room most_bytes most_runs : ℕ) : Type 0 where
  pub counted : sum_by run_count runs ≡ length bytes
  pub bytes_fit : length bytes + room ≤ most_bytes
  pub run_fits : 0 < room → length runs < most_runs
