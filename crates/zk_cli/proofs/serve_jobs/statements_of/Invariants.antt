use Rattle.std.proofs.Common.{◌≡◌, take}
use Rattle.zk_cli.proofs.serve_jobs.statements_of.Given as goal

abbrev pub invariant-loop-claim : goal.invariant-loop-claim
invariant-loop-claim l = l.statements.items ≡ take l.claim-index l.claims
