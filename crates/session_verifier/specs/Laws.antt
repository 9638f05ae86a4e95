-- What the record of an accepted session says by itself.
use Rattle.std.specs.Prelude.{◌≡◌, ℕ, List, Option}
use Rattle.zk_model.specs.Mac.{values_of}
use Rattle.zk_model.specs.Files.{ProverFile, IsProverFile, AreDealt}
use Rattle.zk_model.specs.Program.{Solves, opened_values}
use Rattle.zk_model.specs.Transcript.{Transcript, IsInOrder}
use Rattle.zk_model.specs.View.{View, IsView}
use Rattle.zk_model.specs.Finding.{Finding, IsFinding, AllWithoutError, AllAsClaimed}
use Rattle.zk_model.specs.ServedVerifier.{IsAccepted}
use Rattle.zk_model.specs.declared.Side.{Side}
use Rattle.zk_model.specs.declared.Span.{Span}
use Rattle.zk_laws.specs.Extraction.{Shows}
use Rattle.session_core.specs.Jobs.{VerifierJob}
use Rattle.session_verifier.specs.Notes.{IsShown}

-- its log is accepted, with its transcript
abbrev pub ShownIsAccepted : Type 0
ShownIsAccepted = (job : VerifierJob) (granted : Option Span) (log : List (Side × ℕ)) → (shown : IsShown job granted log)
    → (accepted : IsAccepted job.task log) × (accepted.t ≡ shown.t)

-- a transcript in order that a log is of, the finding that a prover's file gives of it, and what that shows
pub record HasFinding (job : VerifierJob) (log : List (Side × ℕ)) (prover : ProverFile) : Type 0 where
  pub t : Transcript
  pub in_order : IsInOrder job.task.file.params job.task.file.id job.task.statement t log
  pub finding : Finding
  pub found : IsFinding prover job.task.statement t finding
  pub shows : Shows job.task.statement t.commitment.setup.grant.section_length t.challenge job.task.file.key finding

-- every prover's file that is dealt with the verifier's gives a finding of a transcript in order
abbrev pub ShownIsFound : Type 0
ShownIsFound = (job : VerifierJob) (granted : Option Span) (log : List (Side × ℕ)) (prover : ProverFile) → IsShown job granted log
    → IsProverFile prover → AreDealt prover job.task.file → HasFinding job log prover

-- values of all wires and given values that solve the statement's program, and give its claims
pub record SolvesStatement (job : VerifierJob) (view : View) : Type 0 where
  pub solves : Solves job.task.statement.program job.task.statement.public
      (values_of view.carried.wires) (values_of view.carried.given)
  pub claims : opened_values job.task.statement.program (values_of view.carried.wires) ≡ job.task.statement.claims

-- Whatever such a file's prover sees of the session: where no section has an error and all opened wires are as claimed, its values
-- solve the program and give the claims.
abbrev pub ShownSolves : Type 0
ShownSolves = (job : VerifierJob) (granted : Option Span) (log : List (Side × ℕ)) (prover : ProverFile) (view : View)
    → (shown : IsShown job granted log) → IsProverFile prover → AreDealt prover job.task.file
    → IsView prover job.task.statement shown.t.commitment view
    → AllWithoutError job.task.statement.program shown.t.commitment view
    → AllAsClaimed job.task.statement view
    → SolvesStatement job view
