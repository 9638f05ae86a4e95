-- What a sink tells of itself.
use Rattle.std.specs.Prelude.{ℕ, List, Option}
use Rattle.zk_port.specs.Logs.{appended}

-- the bytes written so far, where the sink tells them, and how often a call has failed
pub record SinkState : Type 0 where
  pub written : Option (List ℕ)
  pub faults : ℕ

-- these bytes after all that was written
abbrev pub written_behind : List ℕ → SinkState → SinkState
written_behind bytes old = record old { written = appended bytes old.written }
