-- Sessions about the outputs of an arithmetic circuit.
use Rattle.std.specs.Prelude.{◌≡◌, ℕ, List, length, All}
use Rattle.zk_model.specs.Field.{IsElement}
use Rattle.zk_model.specs.Program.{IsProgram, IsOrdered, IsSolvedBy}
use Rattle.zk_model.specs.Arithmetic.{Arith, IsWellFormed, SatisfiesElements}
use Rattle.zk_model.specs.Files.{ProverFile, VerifierFile}
use Rattle.zk_model.specs.Statement.{arith_statement}
use Rattle.zk_model.specs.Transcript.{Transcript}
use Rattle.zk_model.specs.Headline.{ShowsElements}
use Rattle.zk_model.specs.HonestProver.{ProverTask}
use Rattle.zk_laws.specs.Extraction.{IsExtracted}
use Rattle.session_laws.specs.Peers.{HasWitness, GivesClaims}

-- where inputs make a program give the claims, a prover with these has a witness, and gives the claims
abbrev pub SolvedIsProved : Type 0
SolvedIsProved = (prover : ProverTask) → IsProgram prover.statement.program → IsOrdered prover.statement.program
    → IsSolvedBy prover.statement.program prover.statement.public prover.inputs prover.statement.claims
    → HasWitness prover × GivesClaims prover

-- where elements make an arithmetic circuit give the claimed outputs, and meet its assertions, a prover with these has a witness, and gives
-- the claims
abbrev pub ArithIsProved : Type 0
ArithIsProved = (circuit : Arith) (digest outputs : List ℕ) (prover : ProverTask)
    → IsWellFormed circuit → SatisfiesElements circuit prover.inputs outputs
    → prover.statement ≡ arith_statement circuit digest outputs → HasWitness prover × GivesClaims prover

-- What every finding of a session about an arithmetic circuit's outputs shows is that the inputs make the circuit give them and meet its
-- assertions, or a root at the challenge, or one at the key.
abbrev pub ExtractedShowsElements : Type 0
ExtractedShowsElements = (circuit : Arith) (digest outputs : List ℕ) (prover : ProverFile) (verifier : VerifierFile) (t : Transcript)
    → IsWellFormed circuit → All IsElement outputs → length outputs ≡ circuit.outputs
    → IsExtracted prover verifier (arith_statement circuit digest outputs) t
    → ShowsElements circuit outputs prover verifier.key (arith_statement circuit digest outputs) t
