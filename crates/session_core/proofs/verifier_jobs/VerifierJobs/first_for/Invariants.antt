use Rattle.zk_model.specs.Check.{AllBelow}
use Rattle.session_core.specs.Jobs.{IsHelloOf, job_at}
use Rattle.session_core.proofs.verifier_jobs.VerifierJobs.first_for.Given as goal

-- the hello is for no job so far
abbrev pub invariant-loop-n : goal.invariant-loop-n
invariant-loop-n l = AllBelow l.n (λ k. ¬ IsHelloOf (job_at l.self k) l.hello)
