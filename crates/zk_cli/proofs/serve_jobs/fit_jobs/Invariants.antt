use Rattle.std.proofs.Common.{◌≡◌, ◌≤◌, All, map, take}
use Rattle.zk_model.specs.declared.limits.TheConstants.{MAX_UNITS}
use Rattle.session_core.specs.Jobs.{units_of_job, verifier_of}
use Rattle.zk_cli.proofs.serve_jobs.fit_jobs.Given as goal

abbrev pub invariant-loop-statement : goal.invariant-loop-statement
invariant-loop-statement l = record {
  are : l.jobs.items ≡ map (λ s. verifier_of s l.fn.file l.fn.section) (take l.statement-index l.statements);
  few : All (λ job. units_of_job job ≤ MAX_UNITS) l.jobs.items;
}
