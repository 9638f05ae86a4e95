-- What the definitions promise of the pairs that a prover sees.
use Rattle.std.specs.Prelude.{◌≡◌, ◌+◌, ◌*◌, ◌≤◌, List, length, All}
use Rattle.zk_model.specs.Field.{IsElement}
use Rattle.zk_model.specs.Mac.{Pair}
use Rattle.zk_model.specs.Files.{ProverFile, IsProverFile, correlations_per_unit, rounds_of}
use Rattle.zk_model.specs.Transcript.{Grant, Round, Setup, IsRound}
use Rattle.zk_model.specs.Correlations.{IsProverView}
use Rattle.zk_model.specs.declared.Params.{Params}

-- The units of a grant are in the file, there are as many rounds as the kind has, and each has an ask and a reply
-- for every unit and tree, with the right counts and ranges. What the replies hold is left open.
pub record AreRounds (params : Params) (grant : Grant) (rounds : List Round) : Type 0 where
  pub within : grant.start + grant.count ≤ params.total
  pub count : length rounds ≡ rounds_of params.kind
  pub each : All (IsRound params grant) rounds

-- whatever the replies hold, the prover sees pairs
abbrev pub PairsExist : Type 0
PairsExist = (file : ProverFile) (setup : Setup) → IsProverFile file
    → AreRounds file.params setup.grant setup.rounds → (pairs : List Pair) × IsProverView file setup pairs

-- and it sees one list of pairs
abbrev pub OnePairs : Type 0
OnePairs = (file : ProverFile) (setup : Setup) (some others : List Pair)
    → IsProverView file setup some → IsProverView file setup others → some ≡ others

-- as many pairs as the units of a grant give, all of elements
pub record AreSessionPairs (params : Params) (grant : Grant) (pairs : List Pair) : Type 0 where
  pub count : length pairs ≡ grant.count * correlations_per_unit params
  pub elements : All (λ pair. IsElement pair.x × IsElement pair.m) pairs

-- what the prover sees are as many pairs as the units of the grant give, all of elements
abbrev pub PairsAreWhole : Type 0
PairsAreWhole = (file : ProverFile) (setup : Setup) (pairs : List Pair) → IsProverFile file
    → AreRounds file.params setup.grant setup.rounds → IsProverView file setup pairs
    → AreSessionPairs file.params setup.grant pairs
