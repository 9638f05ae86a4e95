-- What the headline's record holds.
use Rattle.std.proofs.Common.{sym, subst}
use Rattle.zk_model.specs.Files.{ProverFile, VerifierFile, AreDealt}
use Rattle.zk_model.specs.Statement.{Statement}
use Rattle.zk_model.specs.Transcript.{Transcript, IsCommitment, IsTranscript}
use Rattle.zk_model.specs.declared.Params.{Params}
use Rattle.zk_laws.proofs.FindingShows.{claims_are}
use Rattle.zk_laws.specs.Extraction.{NoErrorSolves}
use Rattle.run_laws.specs.AcceptedLogs.{HeadlineIsOfAcceptedLog}

-- files that are dealt as one have the same numbers
of_commitment : (prover : ProverFile) (verifier : VerifierFile) (statement : Statement) (t : Transcript) → AreDealt prover verifier
    → IsTranscript verifier.params statement.program t → IsCommitment prover.params statement.program t.commitment
of_commitment prover verifier statement t dealt whole =
    subst (λ (params : Params). IsCommitment params statement.program t.commitment) (sym dealt.params) whole.commitment

pub of_accepted_log : NoErrorSolves → HeadlineIsOfAcceptedLog
of_accepted_log solves told service claim granted log shown = (
  record { t = shown.t; in_order = shown.in_order; checks = shown.checks; said = shown.said },
  λ prover valid dealt. record {
    shows = shown.shows prover valid dealt;
    solves = λ view seen right.
        solves prover shown.job.task.statement shown.t.commitment view valid shown.in_order.stated
        (of_commitment prover shown.job.task.file shown.job.task.statement shown.t dealt shown.in_order.transcript) seen right;
    claims = λ view seen claimed. claims_are shown.job.task.statement view shown.in_order.stated claimed;
  },
)
