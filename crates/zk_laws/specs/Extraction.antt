-- What an accepted session shows (Weng, Yang, Katz and Wang, Wolverine, IEEE S&P 2021; Yang, Sarkar, Weng and Wang,
-- QuickSilver, ACM CCS 2021).
use Rattle.std.specs.Prelude.{ℕ, ◌≤◌, min, Bool, List, length, map}
use Rattle.zk_model.specs.Bits.{from_bit}
use Rattle.zk_model.specs.Field.{IsElement}
use Rattle.zk_model.specs.Polynomial.{IsNamedRoot}
use Rattle.zk_model.specs.Circuit.{Circuit, IsWellFormed}
use Rattle.zk_model.specs.Program.{Solves, IsSolvedBy}
use Rattle.zk_model.specs.Statement.{Statement, IsStatement, circuit_statement}
use Rattle.zk_model.specs.Mac.{AreKeysOf, values_of}
use Rattle.zk_model.specs.Files.{ProverFile, VerifierFile, IsProverFile, IsVerifierFile, AreDealt}
use Rattle.zk_model.specs.Transcript.{Commitment, Transcript, IsCommitment, IsTranscript}
use Rattle.zk_model.specs.View.{View, IsView, ChecksHold, session_keys}
use Rattle.zk_model.specs.Finding.{Finding, found_inputs, found_challenge_root, found_key_root, AllWithoutError, Gives, IsFinding}
use Rattle.zk_model.specs.ServedVerifier.{RepliesAre}
use Rattle.circuit_laws.specs.Circuits.{AreSatisfying}

-- without errors the prover's values solve the program
abbrev pub NoErrorSolves : Type 0
NoErrorSolves = (file : ProverFile) (statement : Statement) (commitment : Commitment) (view : View)
    → IsProverFile file → IsStatement statement → IsCommitment file.params statement.program commitment
    → IsView file statement commitment view
    → AllWithoutError statement.program commitment view
    → Solves statement.program statement.public (values_of view.carried.wires) (values_of view.carried.given)

-- What a finding says of a statement, the length of sections, the challenge and the key: these inputs make the program
-- give the claims; or a polynomial that is not zero has a root at the challenge, or one of degree two at most at the key.
abbrev pub Shows : Statement → ℕ → ℕ → ℕ → Finding → Type 0
Shows statement section_length challenge key (found_inputs inputs) =
    IsSolvedBy statement.program statement.public inputs statement.claims
Shows statement section_length challenge key (found_challenge_root s polynomial) =
    IsNamedRoot (min section_length (length statement.program.products)) polynomial challenge
Shows statement section_length challenge key (found_key_root polynomial) = IsNamedRoot 2 polynomial key

-- what the prover sees of a session gives a finding
abbrev pub FindingExists : Type 0
FindingExists = (file : ProverFile) (statement : Statement) (t : Transcript) (view : View)
    → IsView file statement t.commitment view → (finding : Finding) × Gives statement t view finding

-- where the keys fit what the prover sees and all checks hold, a finding shows what it says
abbrev pub FindingShows : Type 0
FindingShows = (prover : ProverFile) (verifier : VerifierFile) (statement : Statement) (t : Transcript)
    (view : View) (finding : Finding)
    → IsProverFile prover → IsElement verifier.key → IsStatement statement
    → IsTranscript prover.params statement.program t → IsView prover statement t.commitment view
    → AreKeysOf verifier.key view.pairs (session_keys verifier t.commitment)
    → ChecksHold verifier statement t
    → Gives statement t view finding
    → Shows statement t.commitment.setup.grant.section_length t.challenge verifier.key finding

-- a session has a finding, and every finding shows what it says
pub record IsExtracted (prover : ProverFile) (verifier : VerifierFile) (statement : Statement) (t : Transcript) : Type 0 where
  pub finding : Finding
  pub found : IsFinding prover statement t finding
  pub shows : (other : Finding) → IsFinding prover statement t other
      → Shows statement t.commitment.setup.grant.section_length t.challenge verifier.key other

-- Where all checks hold: for every prover's file that is dealt with the verifier's, there is a finding, and it shows what
-- it says.
abbrev pub Extraction : Type 0
Extraction = (verifier : VerifierFile) (statement : Statement) (t : Transcript) → IsVerifierFile verifier → IsStatement statement
    → IsTranscript verifier.params statement.program t → RepliesAre verifier t.commitment.setup
    → ChecksHold verifier statement t
    → (prover : ProverFile) → IsProverFile prover → AreDealt prover verifier → IsExtracted prover verifier statement t

-- the inputs of a finding about a circuit's outputs are bits that satisfy it
abbrev pub ShowsBits : Circuit → List Bool → List Bool → Finding → Type 0
ShowsBits circuit public outputs (found_inputs inputs) = AreSatisfying circuit public inputs (map from_bit outputs)
ShowsBits circuit public outputs (found_challenge_root s polynomial) = Unit {0}
ShowsBits circuit public outputs (found_key_root polynomial) = Unit {0}

-- of a circuit's outputs, what a finding shows is that bits satisfy the circuit, or the same roots
abbrev pub FoundBits : Type 0
FoundBits = (circuit : Circuit) (digest : List ℕ) (public outputs : List Bool) (section_length challenge key : ℕ) (finding : Finding)
    → IsWellFormed circuit → length public ≤ circuit.inputs
    → Shows (circuit_statement circuit digest public outputs) section_length challenge key finding
    → ShowsBits circuit public outputs finding
