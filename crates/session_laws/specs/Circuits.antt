-- Sessions about the outputs of a circuit.
use Rattle.std.specs.Prelude.{◌≡◌, ℕ, ◌≤◌, Bool, List, ◌++◌, length, map}
use Rattle.zk_model.specs.Bits.{from_bit}
use Rattle.zk_model.specs.Circuit.{Circuit, Satisfies, IsWellFormed}
use Rattle.zk_model.specs.Files.{ProverFile, VerifierFile}
use Rattle.zk_model.specs.Statement.{circuit_statement}
use Rattle.zk_model.specs.Transcript.{Transcript}
use Rattle.zk_model.specs.Headline.{ShowsOutputs}
use Rattle.zk_model.specs.HonestProver.{ProverTask}
use Rattle.zk_laws.specs.Extraction.{IsExtracted}
use Rattle.session_laws.specs.Peers.{HasWitness, GivesClaims}

-- where public bits and private ones make a circuit give the claimed outputs, a prover with the latter has a witness, and gives the
-- claims
abbrev pub CircuitIsProved : Type 0
CircuitIsProved = (circuit : Circuit) (digest : List ℕ) (public inputs outputs : List Bool) (prover : ProverTask)
    → IsWellFormed circuit → length public ≤ circuit.inputs → Satisfies circuit (public ++ inputs) outputs
    → prover.statement ≡ circuit_statement circuit digest public outputs → prover.inputs ≡ map from_bit inputs
    → HasWitness prover × GivesClaims prover

-- What every finding of a session about a circuit's outputs shows is that the private bits, beside the public ones, make the circuit
-- give them, or a root at the challenge, or one at the key.
abbrev pub ExtractedShowsOutputs : Type 0
ExtractedShowsOutputs = (circuit : Circuit) (digest : List ℕ) (public outputs : List Bool) (prover : ProverFile)
    (verifier : VerifierFile) (t : Transcript) → IsWellFormed circuit → length public ≤ circuit.inputs
    → IsExtracted prover verifier (circuit_statement circuit digest public outputs) t
    → ShowsOutputs circuit public outputs prover verifier.key (circuit_statement circuit digest public outputs) t
