-- A session of both ends.
use Rattle.std.specs.Prelude.{◌≡◌, ℕ, Bool, List, ◌++◌, All}
use Rattle.zk_model.specs.Mac.{Pair}
use Rattle.zk_model.specs.Boolean.{bits_of_products}
use Rattle.zk_model.specs.Statement.{Statement}
use Rattle.zk_model.specs.Files.{ProverFile, VerifierFile}
use Rattle.zk_model.specs.Correlations.{IsProverView}
use Rattle.zk_model.specs.Transcript.{Hello, Grant, Round, Transcript, turn_bytes}
use Rattle.zk_model.specs.HonestProver.{IsWitness, IsHonest, round_asks}
use Rattle.zk_model.specs.ServedVerifier.{IsServed}
use Rattle.wire_auth.specs.Values.{given_made}
use Rattle.session_core.specs.Rounds.{round_turns, AreServedRounds}
use Rattle.session_core.specs.Jobs.{ProverJob, VerifierJob}
use Rattle.zk_model.specs.declared.Side.{Side}
use Rattle.zk_model.specs.declared.Verdict.{Verdict}

-- what both ends have: a statement, the prover's given values, and files that are dealt together
pub record BothEnds : Type 0 where
  pub statement : Statement
  pub given : List ℕ
  pub prover : ProverFile
  pub verifier : VerifierFile

-- what a prover and a verifier with these jobs have
abbrev pub ends_of : ProverJob → VerifierJob → BothEnds
ends_of prover verifier = record {
  statement = prover.statement;
  given = prover.given;
  prover = prover.file;
  verifier = verifier.task.file;
}

-- what they have with this statement, these values of the private inputs and these files
abbrev pub ends_with : Statement → List ℕ → ProverFile → VerifierFile → BothEnds
ends_with statement inputs prover verifier = record {
  statement = statement;
  given = given_made statement.program statement.public inputs;
  prover = prover;
  verifier = verifier;
}

-- what they have with these bits of all wires
abbrev pub ends_from : Statement → List Bool → ProverFile → VerifierFile → BothEnds
ends_from statement bits prover verifier = record {
  statement = statement;
  given = bits_of_products statement.program.products bits;
  prover = prover;
  verifier = verifier;
}

-- The rounds of a session under a grant in which an honest prover asks and the verifier replies, and the pairs that the prover sees
-- then.
pub record AreRoundsHeld (prover : ProverFile) (verifier : VerifierFile) (grant : Grant) (pairs : List Pair) (rounds : List Round) : Type 0 where
  pub served : AreServedRounds verifier grant rounds
  pub asks : All (λ round. round.asks ≡ round_asks prover grant) rounds
  pub seen : (hello : Hello) → IsProverView prover (record { hello = hello; grant = grant; rounds = rounds }) pairs

-- such rounds are noted in a log
pub record HoldsRounds (prover : ProverFile) (verifier : VerifierFile) (grant : Grant) (pairs : List Pair) (old new : List (Side × ℕ)) : Type 0 where
  pub rounds : List Round
  pub held : AreRoundsHeld prover verifier grant pairs rounds
  pub noted : new ≡ old ++ turn_bytes (round_turns rounds)

-- the prover is honest with these values of the wires
pub record IsHonestWith (ends : BothEnds) (inputs wires : List ℕ) (t : Transcript) : Type 0 where
  pub honest : IsHonest (record { file = ends.prover; statement = ends.statement; inputs = inputs }) t
  pub wires_are : honest.wires ≡ wires

-- The log of a session under this grant: the verifier serves it and gives this verdict, and the prover is honest, whatever
-- values of wires its given values are of.
pub record IsRehearsedSession (ends : BothEnds) (grant : Grant) (verdict : Verdict) (log : List (Side × ℕ)) : Type 0 where
  pub t : Transcript
  pub granted : t.commitment.setup.grant ≡ grant
  pub served : IsServed (record { file = ends.verifier; statement = ends.statement }) t verdict log
  pub honest : (inputs wires : List ℕ) → IsWitness ends.statement inputs wires ends.given → IsHonestWith ends inputs wires t
