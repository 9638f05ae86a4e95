-- What a verifier makes of a session, whatever the prover fixes in it.
use Rattle.std.specs.Prelude.{◌≡◌, ℕ, List}
use Rattle.zk_model.specs.Statement.{IsStatement}
use Rattle.zk_model.specs.Files.{IsVerifierFile}
use Rattle.zk_model.specs.Transcript.{Setup, Transcript, IsHelloFor, IsSetup, spelling}
use Rattle.zk_model.specs.Frames.{AreElements}
use Rattle.zk_model.specs.ServedVerifier.{VerifierTask, RepliesAre, IsServed}
use Rattle.zk_model.specs.declared.Verdict.{Verdict}

-- a served session with this setup and these corrections
pub record HasServedSession (task : VerifierTask) (setup : Setup) (corrections : List ℕ) : Type 0 where
  pub t : Transcript
  pub verdict : Verdict
  pub served : IsServed task t verdict (spelling t)
  pub commitment : t.commitment ≡ record { setup = setup; corrections = corrections }

-- A setup with a hello for the statement and the file's replies, and as many corrections as there are given values, are those of a
-- session that the verifier serves. No number of sections or of opened wires is too large for it.
abbrev pub ServedSessionExists : Type 0
ServedSessionExists = (task : VerifierTask) (setup : Setup) (corrections : List ℕ)
    → IsVerifierFile task.file → IsStatement task.statement
    → IsSetup task.file.params task.statement.program setup
    → IsHelloFor task.file.id task.statement setup.hello
    → RepliesAre task.file setup
    → AreElements task.statement.program.givens corrections
    → HasServedSession task setup corrections
