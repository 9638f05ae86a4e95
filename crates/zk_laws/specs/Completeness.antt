-- What both ends make of a session on which neither deviates.
use Rattle.std.specs.Prelude.{◌≡◌, ℕ, List}
use Rattle.zk_model.specs.Program.{opened_values}
use Rattle.zk_model.specs.Files.{IsProverFile, IsVerifierFile, AreDealt}
use Rattle.zk_model.specs.Transcript.{Transcript}
use Rattle.zk_model.specs.HonestProver.{ProverTask, IsHonest}
use Rattle.zk_model.specs.ServedVerifier.{VerifierTask, IsServed}
use Rattle.zk_model.specs.BothEnds.{IsHonestSession}
use Rattle.zk_model.specs.declared.Side.{Side}
use Rattle.zk_model.specs.declared.Verdict.{Verdict}
use Rattle.zk_model.specs.declared.Verdict.TheVariants.{Accepted}

-- one statement, and files that are dealt together
pub record AreCounterparts (prover : ProverTask) (verifier : VerifierTask) : Type 0 where
  pub statement : prover.statement ≡ verifier.statement
  pub prover_file : IsProverFile prover.file
  pub verifier_file : IsVerifierFile verifier.file
  pub dealt : AreDealt prover.file verifier.file

-- Where the prover is honest and its values give the claims, and the verifier serves the session, the verdict is that every
-- check holds, and what passes is the log of an honest session.
abbrev pub HonestSessionIsAccepted : Type 0
HonestSessionIsAccepted = (prover : ProverTask) (verifier : VerifierTask) (t : Transcript) (verdict : Verdict)
    (log : List (Side × ℕ)) → AreCounterparts prover verifier
    → (honest : IsHonest prover t)
    → opened_values prover.statement.program honest.wires ≡ prover.statement.claims
    → IsServed verifier t verdict log
    → (verdict ≡ Accepted) × IsHonestSession prover verifier t.commitment.setup.grant t verdict log
