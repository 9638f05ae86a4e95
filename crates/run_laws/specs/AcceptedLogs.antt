-- What follows of an accepted session's log.
use Rattle.std.specs.Prelude.{◌≡◌, ℕ, List, Option}
use Rattle.zk_model.specs.Files.{ProverFile, IsProverFile, AreDealt}
use Rattle.zk_model.specs.Finding.{AllWithoutError, AllAsClaimed}
use Rattle.zk_model.specs.Headline.{ShowsInputs}
use Rattle.zk_model.specs.Mac.{values_of}
use Rattle.zk_model.specs.Program.{Solves, opened_values}
use Rattle.zk_model.specs.ServedVerifier.{IsAccepted}
use Rattle.zk_model.specs.View.{View, IsView}
use Rattle.zk_model.specs.declared.Side.{Side}
use Rattle.zk_model.specs.declared.Span.{Span}
use Rattle.zk_port.specs.Files.{Files}
use Rattle.claim_files.specs.NamedClaims.{AreSatisfying}
use Rattle.claim_files.specs.Services.{Service}
use Rattle.claim_files.specs.declared.claim_names.ClaimNames.{ClaimNames}
use Rattle.zk_cli.specs.ServedNotes.{IsHeadline}

-- what follows of a prover's file that is dealt with the verifier's: the finding of the transcript, and what it says;
-- and where no section has an error, that the prover's values solve the program, and give the claims if each opened
-- wire is as claimed
pub record HeadlineFinds {told : Option Files} {service : Service} {claim : ClaimNames} {granted : Option Span} {log : List (Side × ℕ)}
    (shown : IsHeadline told service claim granted log) (prover : ProverFile) : Type 0 where
  pub shows : ShowsInputs (AreSatisfying shown.claimed) prover shown.job.task.file.key shown.job.task.statement shown.t
  pub solves : (view : View) → IsView prover shown.job.task.statement shown.t.commitment view
      → AllWithoutError shown.job.task.statement.program shown.t.commitment view
      → Solves shown.job.task.statement.program shown.job.task.statement.public
      (values_of view.carried.wires) (values_of view.carried.given)
  pub claims : (view : View) → IsView prover shown.job.task.statement shown.t.commitment view
      → AllAsClaimed shown.job.task.statement view
      → opened_values shown.job.task.statement.program (values_of view.carried.wires) ≡ shown.job.task.statement.claims

-- from the headline's record: its log is one that a verifier with its job accepts, and every prover's file that is
-- dealt with the verifier's has a finding of that transcript
abbrev pub HeadlineIsOfAcceptedLog : Type 0
HeadlineIsOfAcceptedLog = (told : Option Files) (service : Service) (claim : ClaimNames) (granted : Option Span) (log : List (Side × ℕ))
    → (shown : IsHeadline told service claim granted log)
    → IsAccepted shown.job.task log
    × ((prover : ProverFile) → IsProverFile prover → AreDealt prover shown.job.task.file → HeadlineFinds shown prover)
