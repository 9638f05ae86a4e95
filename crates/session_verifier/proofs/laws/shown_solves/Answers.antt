use Rattle.std.proofs.Common.{subst, sym}
use Rattle.zk_model.specs.Transcript.{IsCommitment}
use Rattle.zk_model.specs.declared.Params.{Params}
use Rattle.zk_laws.proofs.FindingShows.{claims_are}
use Rattle.session_verifier.proofs.laws.shown_solves.Goals as goal

pub returns : goal.returns
returns c job granted log prover view shown is dealt seen right claimed = record {
  solves = c.no_error_solves.ensures prover job.task.statement shown.t.commitment view is shown.in_order.stated
      (subst (λ (p : Params). IsCommitment p job.task.statement.program shown.t.commitment) (sym dealt.params) shown.in_order.transcript.commitment) seen right;
  claims = claims_are job.task.statement view shown.in_order.stated claimed;
}
