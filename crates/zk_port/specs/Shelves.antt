-- What a shelf tells of itself.
use Rattle.std.specs.Prelude.{ℕ, List, Option}
use Rattle.std.specs.Option.{option_map}
use Rattle.zk_port.specs.Files.{Files, stored}

-- the files, where the shelf tells them; how often a call has failed; and how often one for the file of each name has: a call for
-- another name need not raise it
pub record ShelfState : Type 0 where
  pub told : Option Files
  pub faults : ℕ
  pub faults_of : List ℕ → ℕ

-- these bytes under the name
abbrev pub stored_on : List ℕ → List ℕ → ShelfState → ShelfState
stored_on name bytes old = record old { told = option_map (stored name bytes) old.told }
