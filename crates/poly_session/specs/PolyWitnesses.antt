-- What a prover says of constraints.
use Rattle.std.specs.Prelude.{ℕ, None, List, [], ◌∷◌, map, zip}
use Rattle.sha2.specs.Sha256.{sha256}
use Rattle.zk_model.specs.Frames.{Frame, poly_sums}
use Rattle.zk_model.specs.Mac.{Pair}
use Rattle.zk_model.specs.Transcript.{Hello}
use Rattle.poly_model.specs.Constraints.{Constraints}
use Rattle.poly_model.specs.ConstraintCheck.{honest_sums}
use Rattle.poly_session.specs.PolyClaims.{masks_of}

-- its hello, for files of this id and constraints of a text with this digest
abbrev pub poly_hello : List ℕ → List ℕ → Hello
poly_hello id digest = record { id = id; circuit = digest; outputs = sha256 []; version = 3; public = None }

-- dealt pairs with these values in place of theirs
abbrev pub valued_pairs : List ℕ → List Pair → List Pair
valued_pairs values pairs = map (λ q. record { x = q.0; m = q.1.m }) (zip values pairs)

-- its one answer to a challenge: the sums of an honest prover, with the pairs after those of the values for masks
abbrev pub poly_replies : Constraints → List ℕ → List Pair → ℕ → List Frame
poly_replies constraints values pairs challenge =
    poly_sums (honest_sums constraints (valued_pairs values pairs) challenge (masks_of constraints pairs)) ∷ []
