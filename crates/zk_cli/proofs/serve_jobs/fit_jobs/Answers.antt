use Rattle.std.proofs.Common.{◌≤◌, List, All, subst, arith}
use Rattle.zk_model.specs.Statement.{Statement}
use Rattle.zk_model.specs.declared.limits.TheConstants.{MAX_UNITS}
use Rattle.session_core.specs.Jobs.{VerifierJob, units_of_job, verifier_of}
use Rattle.zk_cli.proofs.Loading.{first_too_large, one_fits}
use Rattle.zk_cli.proofs.serve_jobs.fit_jobs.Goals as goal

pub returns-in-Err-clause-stop : goal.returns-in-Err-clause-stop
returns-in-Err-clause-stop c =
    first_too_large (λ (s : Statement). verifier_of s c.args.file.now c.args.section) c.args.statements.now c.loop-statement.statement-index
    c.statement-item.result c.in-Err.field-0 (omega arith) c.statement-item.is
    (subst (λ (jobs : List VerifierJob). All (λ job. units_of_job job ≤ MAX_UNITS) jobs) c.loop-statement.invariant.are c.loop-statement.invariant.few)
    c.in-Err.ensures.many

pub loop-statement-preserved : goal.loop-statement-preserved
loop-statement-preserved c =
    let more = one_fits (λ (s : Statement). verifier_of s c.args.file.now c.args.section) c.args.statements.now c.loop-statement.statement-index
    c.statement-item.result c.loop-statement.jobs.items c.in-Ok.job c.push.new.self.items (omega arith) c.statement-item.is
    c.loop-statement.invariant.are c.loop-statement.invariant.few c.in-Ok.ensures.fits c.in-Ok.ensures.bounded c.in-Ok-push.ensures.items in
    record { are = more.0; few = more.1 }
