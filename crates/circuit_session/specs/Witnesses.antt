-- What a prover says of a statement about a circuit.
use Rattle.std.specs.Prelude.{ℕ, List, [], ◌∷◌, drop}
use Rattle.zk_model.specs.Check.{WirePairs, all_sums, opened_pairs}
use Rattle.zk_model.specs.Frames.{Frame, sums, openings}
use Rattle.zk_model.specs.Mac.{Pair, macs_of}
use Rattle.zk_model.specs.Statement.{Statement}
use Rattle.wire_auth.specs.Walks.{side_made}

-- the pairs of all wires that values of the inputs make of dealt pairs
abbrev pub statement_pairs : Statement → List ℕ → List Pair → WirePairs
statement_pairs statement inputs pairs = (side_made statement.program statement.public inputs pairs).pairs

-- its answers to a challenge: those of an honest prover, with the pairs after those of the given values for masks
abbrev pub statement_replies : Statement → List ℕ → List Pair → ℕ → ℕ → List Frame
statement_replies statement inputs pairs section_length challenge =
    sums (all_sums statement.program section_length challenge (statement_pairs statement inputs pairs)
    (drop statement.program.givens pairs))
    ∷ openings (macs_of (opened_pairs statement.program (statement_pairs statement inputs pairs)))
    ∷ []
