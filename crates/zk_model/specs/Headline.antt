-- What an accepted session about a circuit's outputs shows: the private input bits, or the input elements, that the prover's file and
-- frames fix make the circuit give the claimed outputs, bits beside the public ones, elements such that it meets its assertions; or the challenge is a root of a named polynomial that is
-- not zero, of at most the number of products in degree, which was fixed before the challenge; or the verifier's key is one of
-- a named polynomial that is not zero, of degree two at most (Weng, Yang, Katz and Wang, Wolverine, IEEE S&P 2021; Yang,
-- Sarkar, Weng and Wang, QuickSilver, ACM CCS 2021).
use Rattle.std.specs.Prelude.{◌≡◌, ℕ, min, Bool, List, ◌++◌, length, map}
use Rattle.zk_model.specs.Bits.{from_bit}
use Rattle.zk_model.specs.Polynomial.{IsNamedRoot}
use Rattle.zk_model.specs.Circuit.{Circuit, Satisfies}
use Rattle.zk_model.specs.Arithmetic.{Arith, SatisfiesElements}
use Rattle.zk_model.specs.Files.{ProverFile}
use Rattle.zk_model.specs.Statement.{Statement}
use Rattle.zk_model.specs.Transcript.{Transcript}
use Rattle.zk_model.specs.Finding.{Finding, found_inputs, found_challenge_root, found_key_root, IsFinding}

-- private inputs are bits, and with the public bits and these the circuit gives the outputs
pub record AreSatisfyingBits (circuit : Circuit) (public outputs : List Bool) (inputs : List ℕ) : Type 0 where
  pub bits : List Bool
  pub inputs_are : inputs ≡ map from_bit bits
  pub satisfied : Satisfies circuit (public ++ bits) outputs

-- What a finding says. The inputs that were found satisfy; or the challenge is a root of the errors of the section that was found, of at
-- most its length and the number of products in degree; or the key is a root of the polynomial that was found, of degree two at most.
abbrev pub SaysInputs : (List ℕ → Type 0) → ℕ → Statement → Transcript → Finding → Type 0
SaysInputs Satisfy key statement t (found_inputs inputs) = Satisfy inputs
SaysInputs Satisfy key statement t (found_challenge_root section errors) =
    IsNamedRoot (min t.commitment.setup.grant.section_length (length statement.program.products)) errors t.challenge
SaysInputs Satisfy key statement t (found_key_root polynomial) = IsNamedRoot 2 polynomial key

-- The one finding of the prover's file and a session, and what it says. A finding of inputs has those that the file and the frames
-- before the challenge fix; one of a root has the polynomial of the first section with an error, or, where no section has one, of
-- the first opened wire that is not as claimed.
pub record ShowsInputs
    (Satisfy : List ℕ → Type 0)
    (prover : ProverFile)
    (key : ℕ)
    (statement : Statement)
    (t : Transcript) : Type 0 where
  pub finding : Finding
  pub found : IsFinding prover statement t finding
  pub says : SaysInputs Satisfy key statement t finding

-- of a Boolean circuit's outputs: inputs that are found are bits that satisfy
abbrev pub ShowsOutputs : Circuit → List Bool → List Bool → ProverFile → ℕ → Statement → Transcript → Type 0
ShowsOutputs circuit public outputs = ShowsInputs (AreSatisfyingBits circuit public outputs)

-- of an arithmetic circuit's outputs: inputs that are found are elements that satisfy
abbrev pub ShowsElements : Arith → List ℕ → ProverFile → ℕ → Statement → Transcript → Type 0
ShowsElements circuit outputs = ShowsInputs (λ inputs. SatisfiesElements circuit inputs outputs)
