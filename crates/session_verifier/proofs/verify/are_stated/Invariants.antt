use Rattle.zk_model.specs.Check.{AllBelow}
use Rattle.zk_model.specs.Statement.{IsStatement}
use Rattle.session_core.specs.Jobs.{job_at}
use Rattle.session_verifier.proofs.verify.are_stated.Given as goal

-- so far
abbrev pub invariant-loop-n : goal.invariant-loop-n
invariant-loop-n l = AllBelow l.n (λ k. IsStatement (job_at l.jobs k).task.statement)
