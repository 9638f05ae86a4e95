-- The script of a session about a claim.
use Rattle.std.specs.Prelude.{List, [], ◌∷◌, ◌++◌, ℕ, flat_map}
use Rattle.std.specs.List.{range_with_len}
use Rattle.zk_model.specs.Audit.{round_places}
use Rattle.zk_model.specs.Files.{rounds_of}
use Rattle.zk_model.specs.Transcript.{Grant}
use Rattle.zk_model.specs.declared.Expect.{Expect}
use Rattle.zk_model.specs.declared.Expect.TheVariants as expect
use Rattle.zk_model.specs.declared.Params.{Params}
use Rattle.session_claim.specs.Claims.{Claim}

-- its first places, of which the second leaves the others
abbrev pub first_places : Claim → List Expect
first_places claim = claim.greeting ∷ expect.Grant ∷ []

-- the places of the rounds of a grant
abbrev pub rounds_places : Params → Grant → List Expect
rounds_places params given = flat_map (λ n. round_places params given) (range_with_len 0 (rounds_of params.kind))

-- the places after all rounds
abbrev pub claim_places : Claim → ℕ → List Expect
claim_places claim section_length =
    expect.Corrections claim.givens ∷ expect.Challenge ∷ claim.answers section_length ++ claim.verdict ∷ []

-- all places that a grant leaves
abbrev pub claim_behind : Params → Claim → Grant → List Expect
claim_behind params claim given = rounds_places params given ++ claim_places claim given.section_length
