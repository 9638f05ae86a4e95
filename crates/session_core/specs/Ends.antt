-- What both ends of a session answer, turn by turn.
use Rattle.std.specs.Prelude.{◌≡◌, ℕ, List, drop, take}
use Rattle.zk_model.specs.Mac.{Pair, corrected_pairs}
use Rattle.zk_model.specs.Program.{Program, section_count}
use Rattle.zk_model.specs.Statement.{Statement}
use Rattle.zk_model.specs.Check.{WirePairs, ArePairsOf}
use Rattle.zk_model.specs.Transcript.{Grant}
use Rattle.zk_model.specs.HonestProver.{honest_corrections}

-- the grant of all units of a file
abbrev pub whole_grant : ℕ → ℕ → Grant
whole_grant total section_length = record { start = 0; count = total; section_length = section_length }

-- the masks of the sections: as many items as there are, after those of the given values
abbrev pub masks_in : {A : Type 0} → Program → ℕ → List A → List A
masks_in program section_length items = take (section_count program section_length) (drop program.givens items)

-- What a prover has fixed with these given values and pairs: its corrections, and the pairs of the wires.
pub record IsFixed (statement : Statement) (given : List ℕ) (pairs : List Pair) (corrections : List ℕ) (wires : WirePairs) : Type 0 where
  pub corrections_are : corrections ≡ honest_corrections given pairs
  pub given_are : wires.given ≡ corrected_pairs pairs corrections
  pub carried : ArePairsOf statement.program statement.public wires
