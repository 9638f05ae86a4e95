-- What a prover proves with: the given values that its statement and its inputs make.
use Rattle.std.proofs.Common.{◌≡◌, ℕ, List, All, length, arith, ap, refl, sym, subst}
use Rattle.zk_model.specs.Field.{IsElement}
use Rattle.zk_model.specs.Mac.{Pair, corrected_pairs}
use Rattle.zk_model.specs.Program.{Program, AreMade}
use Rattle.zk_model.specs.Statement.{Statement, IsStatement}
use Rattle.zk_model.specs.Files.{ProverFile}
use Rattle.zk_model.specs.Check.{ArePairsOf}
use Rattle.zk_model.specs.HonestProver.{honest_corrections}
use Rattle.field_program.specs.Programs.{IsSmallProgram}
use Rattle.wire_auth.specs.Values.{wires_made, given_made}
use Rattle.wire_auth.proofs.Correcting.{known_walked, walked_pairs}
use Rattle.wire_auth.proofs.Making.{can_be_made, made_exist}
use Rattle.wire_auth.specs.Walks.{side_made}
use Rattle.session_core.specs.Ends.{IsFixed}
use Rattle.session_core.specs.Jobs.{AreWitnessValues, given_by, prover_from}
use Rattle.session_core.specs.Fixing.{AreEnough, pairs_fixed}
use Rattle.session_core.specs.declared.wire_values.WireValues.{WireValues}

-- they are made
pub job_made : (statement : Statement) (inputs : List ℕ) → IsStatement statement → IsSmallProgram statement.program
    → length inputs ≡ statement.program.inputs
    → AreMade statement.program statement.public inputs (wires_made statement.program statement.public inputs) (given_made statement.program statement.public inputs)
job_made statement inputs stated held counted =
    made_exist statement.program statement.public inputs (can_be_made statement.program held) stated.public_count counted

-- the first of them are the inputs
pub inputs_walked : (statement : Statement) (inputs : List ℕ) (file : ProverFile) (pairs : List Pair) → IsStatement statement → IsSmallProgram statement.program
    → length inputs ≡ statement.program.inputs
    → (side_made statement.program statement.public inputs pairs).pairs ≡ pairs_fixed (prover_from statement inputs file) pairs
inputs_walked statement inputs file pairs stated held counted =
    ap (λ (l : List ℕ). (side_made statement.program statement.public l pairs).pairs) (sym (job_made statement inputs stated held counted).first)

-- these corrections fix the prover with the pairs of a walk
AreWalked : List ℕ → List Pair → List ℕ → Program × List ℕ → Type 0
AreWalked inputs pairs corrections (program, public) =
    (corrections ≡ honest_corrections (given_made program public inputs) pairs)
    × ((side_made program public inputs pairs).pairs.given ≡ corrected_pairs pairs corrections)
    × ArePairsOf program public (side_made program public inputs pairs).pairs

pub job_fixed : (statement : Statement) (inputs : List ℕ) (file : ProverFile) (program : Program) (public : List ℕ) (pairs : List Pair) (corrections : List ℕ)
    → IsStatement statement → IsSmallProgram statement.program → length inputs ≡ statement.program.inputs
    → program ≡ statement.program → public ≡ statement.public
    → corrections ≡ honest_corrections (given_made program public inputs) pairs
    → (side_made program public inputs pairs).pairs.given ≡ corrected_pairs pairs corrections
    → ArePairsOf program public (side_made program public inputs pairs).pairs
    → IsFixed statement (given_made statement.program statement.public inputs) pairs corrections (pairs_fixed (prover_from statement inputs file) pairs)
unfolding AreWalked
job_fixed statement inputs file program public pairs corrections stated held counted same known corrections_are given_are carried =
    subst (IsFixed statement (given_made statement.program statement.public inputs) pairs corrections) (inputs_walked statement inputs file pairs stated held counted) (record {
      corrections_are = walked.0;
      given_are = walked.1;
      carried = walked.2;
    })
  where
    walked : AreWalked inputs pairs corrections (statement.program, statement.public)
    walked = subst (AreWalked inputs pairs corrections) (λ i. (same i, known i)) (corrections_are, given_are, carried)

-- so do corrections that what makes the given values gives
pub known_fixed : (statement : Statement) (inputs : List ℕ) (file : ProverFile) (program : Program) (section : ℕ) (pairs : List Pair) (corrections : List ℕ)
    (wires : WireValues) → IsStatement statement → IsSmallProgram statement.program → length inputs ≡ statement.program.inputs
    → program ≡ statement.program → AreEnough (prover_from statement inputs file) section pairs
    → AreWitnessValues (given_made statement.program statement.public inputs) statement.program wires
    → All IsElement (given_by program wires) → corrections ≡ honest_corrections (given_by program wires) pairs
    → IsFixed statement (given_made statement.program statement.public inputs) pairs corrections (pairs_fixed (prover_from statement inputs file) pairs)
known_fixed statement inputs file program section pairs corrections wires stated held counted same enough witness elements are =
    job_fixed statement inputs file statement.program statement.public pairs corrections stated held counted refl refl walked.0 walked.1
    (walked_pairs statement.program statement.public inputs pairs held stated.public_count counted (omega (arith, enough)))
  where
    walked : (corrections ≡ honest_corrections (given_made statement.program statement.public inputs) pairs)
        × ((side_made statement.program statement.public inputs pairs).pairs.given ≡ corrected_pairs pairs corrections)
    walked = known_walked statement.program statement.public inputs (given_by statement.program wires) corrections pairs witness.made
        (subst (λ (p : Program). All IsElement (given_by p wires)) same elements)
        (subst (λ (p : Program). corrections ≡ honest_corrections (given_by p wires) pairs) same are)
