use Rattle.std.proofs.Common.{◌∙◌, inl, inr, ap, sym, subst, arith}
use Rattle.std.proofs.lemmas.Bool.{cases_order}
use Rattle.zk_model.specs.Statement.{IsStatement}
use Rattle.session_core.specs.Jobs.{VerifierJob, job_at}
use Rattle.session_verifier.proofs.verify.are_stated.Goals as goal

pub loop-n-preserved : goal.loop-n-preserved
loop-n-preserved c =
    let stated : IsStatement (job_at c.args.jobs.now c.loop-n.n).task.statement =
    subst IsStatement (c.statement.ensures.statement ∙ ap (λ (j : VerifierJob). j.task.statement) c.job.ensures) c.program-program.ensures.stated in
    λ i below. elim (cases_order i c.loop-n.n) [
      | inl same ↦ subst (λ k. IsStatement (job_at c.args.jobs.now k).task.statement) (sym same) stated
      | inr (inl less) ↦ c.loop-n.invariant i less
      | inr (inr more) ↦ absurd (omega (arith, below, more))
    ]
